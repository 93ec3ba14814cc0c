use Rattle.std.proofs.Common.{◌≡◌, ℕ, Bool, List, false, rules, tests, ap, ◌∙◌}
use Rattle.std.specs.List.{list_any}
use Rattle.std.specs.List.Sorted.{IsStrictlySortedBy}
use Rattle.std.specs.Map.{keys_of}
use Rattle.std.specs.Ordering.{nat_cmp}
use Rattle.std.proofs.lemmas.Iterator.{YieldsList-from_slice, cases_from_any}
use Rattle.std.proofs.lemmas.Iterator.Search.{any_from_yields_List}
use Rattle.kube_model.specs.declared.key.Key.{Key}
use Rattle.mlb_base.specs.Items.{is_nil}
use Rattle.claim_index.specs.Index.{numbers_of}
use Rattle.claim_index.specs.Reading.{is_claim_under}
use Rattle.claim_index.proofs.IndexReading.{under, asked-any, claims_it-is}
use Rattle.claim_index.proofs.index.ClaimIndex.claims_it.Goals as goal

pub returns : goal.returns
returns c =
    let items = c.self.inside.claims.items in
    let numbers = c.numbers.result.now in
    let sorted : is_nil numbers ≡ false → IsStrictlySortedBy nat_cmp (keys_of items) =
    asked-any (IsStrictlySortedBy nat_cmp (keys_of items)) c.any.result numbers
    (cases_from_any _ _ c.any.result (λ _. IsStrictlySortedBy nat_cmp (keys_of items)) (λ _. IsStrictlySortedBy nat_cmp (keys_of items)) c.any.ensures.ran
    (YieldsList-from_slice numbers cc) (λ x q k. search (rules, tests)) (λ x q k. search (rules, tests)))
    in
    let test : ℕ → Bool = λ n. is_claim_under c.args.claim.now.holding c.args.claim.now.terms (under items n) in
    let value : c.any.result ≡ list_any test numbers =
    any_from_yields_List test _ _ c.any.result c.any.ensures.ran (YieldsList-from_slice numbers cc) (λ x b q k. search (rules, tests)) in
    rw (← c.self.view_is)
    (value ∙ claims_it-is items numbers sorted c.args.claim.now.key (c.numbers.ensures ∙ ap (λ (f : Key → List ℕ). f c.key.result.now) c.self.invariant.keys
    ∙ ap (λ (key : Key). numbers_of key items) c.key.ensures) c.args.claim.now.holding c.args.claim.now.terms)
