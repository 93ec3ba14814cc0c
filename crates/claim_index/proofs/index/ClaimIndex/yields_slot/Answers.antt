use Rattle.std.proofs.Common.{◌≡◌, ℕ, Bool, List, Some, false, rules, tests, sym, subst, ap, ◌∙◌}
use Rattle.std.specs.List.{list_all}
use Rattle.std.specs.List.Sorted.{IsStrictlySortedBy}
use Rattle.std.specs.Map.{keys_of}
use Rattle.std.specs.Ordering.{nat_cmp}
use Rattle.std.proofs.lemmas.Iterator.{YieldsList-from_slice, cases_from_all}
use Rattle.std.proofs.lemmas.Iterator.Search.{all_from_yields_List}
use Rattle.ip_ranges.specs.Values.{AddressValue}
use Rattle.mlb_base.specs.Items.{is_nil}
use Rattle.claim_index.specs.GroupNumbers.{number_for}
use Rattle.claim_index.specs.Index.{ClaimIndexValue}
use Rattle.claim_index.specs.Reading.{is_of}
use Rattle.claim_index.specs.SharingGroups.{sharing_group_of}
use Rattle.claim_index.specs.Slots.{OfPort}
use Rattle.claim_index.proofs.IndexReading.{under, asked-all, yields-is}
use Rattle.claim_index.proofs.NumberLaws.{port-are}
use Rattle.claim_index.proofs.index.ClaimIndex.yields_slot.Goals as goal

pub returns : goal.returns
returns c =
    let items = c.self.inside.claims.items in
    let numbers = c.numbers.result.now in
    let sorted : is_nil numbers ≡ false → IsStrictlySortedBy nat_cmp (keys_of items) =
    asked-all (IsStrictlySortedBy nat_cmp (keys_of items)) c.all.result numbers
    (cases_from_all _ _ c.all.result (λ _. IsStrictlySortedBy nat_cmp (keys_of items)) (λ _. IsStrictlySortedBy nat_cmp (keys_of items)) c.all.ensures.ran
    (YieldsList-from_slice numbers cc) (λ x q k. search (rules, tests)) (λ x q k. search (rules, tests)))
    in
    let test : ℕ → Bool = λ n. is_of c.args.key.now (under items n) in
    let value : c.all.result ≡ list_all test numbers =
    all_from_yields_List test _ _ c.all.result c.all.ensures.ran (YieldsList-from_slice numbers cc) (λ x b q k. search (rules, tests)) in
    let terms = c.args.terms.now in
    let number : number_for c.self.inside.groups terms ≡ Some c.args.group =
    subst (λ (v : ClaimIndexValue). number_for v.room.groups terms ≡ Some c.args.group) (sym c.self.view_is) c.requires in
    rw (← c.self.view_is)
    (value ∙ yields-is items numbers sorted (OfPort c.args.port (sharing_group_of terms)) c.args.address.now
    (c.numbers.ensures ∙ ap (λ (f : AddressValue → List ℕ). f c.args.address.now)
    (port-are c.self.inside.groups c.self.inside.holders items c.self.invariant.holders terms c.args.port c.args.group number)) c.args.key.now)
