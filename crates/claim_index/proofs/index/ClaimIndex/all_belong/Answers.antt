use Rattle.std.proofs.Common.{◌≡◌, ◌-◌, ℕ, nat_eq, List, Some, length, filter, sym, subst, ap, ◌∙◌}
use Rattle.ip_ranges.specs.Values.{AddressValue}
use Rattle.kube_model.specs.declared.key.Key.{Key}
use Rattle.sharing_terms.specs.declared.terms.Terms.{Terms}
use Rattle.claim_index.specs.Slots.{Any, OfSharingGroup}
use Rattle.claim_index.specs.GroupNumbers.{number_for}
use Rattle.claim_index.specs.SharingGroups.{sharing_group_of}
use Rattle.claim_index.specs.Index.{ClaimIndexValue, numbers_at}
use Rattle.claim_index.specs.Reading.{is_odd}
use Rattle.claim_index.proofs.GroupLaws.{own_odd, belong-is}
use Rattle.claim_index.proofs.IndexReading.{under, count-is}
use Rattle.claim_index.proofs.NumberLaws.{group-are, keyed-number}
use Rattle.claim_index.proofs.index.ClaimIndex.all_belong.Goals as goal

pub returns : goal.returns
returns c =
    let items = c.self.inside.claims.items in
    let key = c.args.key.now in
    let terms = c.args.terms.now in
    let a = c.args.address.now in
    let number : number_for c.self.inside.groups terms ≡ Some c.args.group =
    subst (λ (v : ClaimIndexValue). number_for v.room.groups terms ≡ Some c.args.group) (sym c.self.view_is) c.requires.number in
    let all : c.numbers-all.result.now ≡ numbers_at Any a items =
    c.numbers-all.ensures ∙ ap (λ (f : AddressValue → List ℕ). f a) (c.self.invariant.holders Any) in
    let grouped : c.numbers-grouped.result.now ≡ numbers_at (OfSharingGroup (sharing_group_of terms)) a items =
    c.numbers-grouped.ensures
    ∙ ap (λ (f : AddressValue → List ℕ). f a)
    (group-are c.self.inside.groups c.self.inside.holders items c.self.invariant.holders terms c.args.group number) in
    let own : c.count_odd.result ≡ length (own_odd key terms a items) =
    c.count_odd.ensures.count
    ∙ ap (λ (t : Terms). length (filter (λ n. is_odd t a (under items n)) c.numbers-own.result.now)) c.terms.ensures
    ∙ count-is items c.numbers-own.result.now c.count_odd.ensures.ascending key (c.numbers-own.ensures ∙ ap (λ (f : Key → List ℕ). f key) c.self.invariant.keys)
    (is_odd terms a) in
    rw (← c.self.view_is)
    (ap (λ (n : ℕ). nat_eq n c.count_odd.result) c.saturating_sub.ensures
    ∙ ap (λ (ns : List ℕ). nat_eq (length ns - length c.numbers-grouped.result.now) c.count_odd.result) all
    ∙ ap (λ (ns : List ℕ). nat_eq (length (numbers_at Any a items) - length ns) c.count_odd.result) grouped
    ∙ ap (λ (n : ℕ). nat_eq (length (numbers_at Any a items) - length (numbers_at (OfSharingGroup (sharing_group_of terms)) a items)) n) own
    ∙ belong-is key terms a items c.self.invariant.groups c.requires.grouped (keyed-number c.self.inside.groups terms c.args.group number).0)
