use Rattle.std.proofs.Common.{◌≡◌, ℕ, Bool, List, false, rules, tests, ap, ◌∙◌}
use Rattle.std.specs.List.{list_all}
use Rattle.std.specs.List.Sorted.{IsStrictlySortedBy}
use Rattle.std.specs.Map.{keys_of}
use Rattle.std.specs.Ordering.{nat_cmp}
use Rattle.std.proofs.lemmas.Iterator.{YieldsList-from_slice, cases_from_all}
use Rattle.std.proofs.lemmas.Iterator.Search.{all_from_yields_List}
use Rattle.ip_ranges.specs.Values.{AddressValue}
use Rattle.mlb_base.specs.Items.{is_nil}
use Rattle.claim_index.specs.Slots.{Any}
use Rattle.claim_index.specs.Reading.{gives_way}
use Rattle.claim_index.proofs.IndexReading.{under, asked-all, all_leave-is}
use Rattle.claim_index.proofs.index.ClaimIndex.all_give_way.Goals as goal

pub returns : goal.returns
returns c =
    let items = c.self.inside.claims.items in
    let numbers = c.numbers.result.now in
    let sorted : is_nil numbers ≡ false → IsStrictlySortedBy nat_cmp (keys_of items) =
    asked-all (IsStrictlySortedBy nat_cmp (keys_of items)) c.all.result numbers
    (cases_from_all _ _ c.all.result (λ _. IsStrictlySortedBy nat_cmp (keys_of items)) (λ _. IsStrictlySortedBy nat_cmp (keys_of items)) c.all.ensures.ran
    (YieldsList-from_slice numbers cc) (λ x q k. search (rules, tests)) (λ x q k. search (rules, tests)))
    in
    let test : ℕ → Bool = λ n. gives_way c.args.key.now c.args.terms.now (under items n) in
    let value : c.all.result ≡ list_all test numbers =
    all_from_yields_List test _ _ c.all.result c.all.ensures.ran (YieldsList-from_slice numbers cc) (λ x b q k. search (rules, tests)) in
    rw (← c.self.view_is)
    (value ∙ all_leave-is items numbers sorted c.args.address.now c.args.key.now c.args.terms.now
    (c.numbers.ensures ∙ ap (λ (f : AddressValue → List ℕ). f c.args.address.now) (c.self.invariant.holders Any)))
