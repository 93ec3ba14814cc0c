use Rattle.std.proofs.Common.{◌≡◌, ◌+◌, ℕ, List, Some, None, refl, sym, subst, ◌∙◌}
use Rattle.std.specs.BTreeMap.{Updates}
use Rattle.std.specs.Cmp.Lexicographic.{slice_cmp}
use Rattle.std.specs.Ordering.{nat_cmp}
use Rattle.claim_index.specs.GroupNumbers.{number_of}
use Rattle.claim_index.proofs.GroupNumberLaws.{groups_in, looked-up, puts-updated, given-numbered, given-now, given-more}
use Rattle.claim_index.proofs.group_numbers.GroupNumbers.give_to.Goals as goal

pub returns-in-Some-clause-number : goal.returns-in-Some-clause-number
returns-in-Some-clause-number c =
    rw (← c.self.view_is)
    (sym (looked-up c.args.group.now c.self.inside.numbers.entries) ∙ sym c.get.ensures.value ∙ sym c.in-Some.ensures)

pub invariant_of-self-2 : goal.invariant_of-self-2
invariant_of-self-2 c =
    let next = c.self.inside.next in
    let updates = subst (λ (g : List ℕ). Updates (slice_cmp nat_cmp) c.self.inside.numbers c.insert.new.self g (Some next)) c.in_ok-copy.ensures
    c.in_ok-_none.ensures.updates in
    let none : number_of (groups_in c.self.inside.numbers next) c.args.group.now ≡ None =
    sym (looked-up c.args.group.now c.self.inside.numbers.entries) ∙ sym c.get.ensures.value ∙ sym c.in_default.ensures in
    given-numbered c.args.group.now (groups_in c.self.inside.numbers next) (groups_in c.insert.new.self (next + 1)) none c.self.invariant refl
    (puts-updated c.args.group.now (Some next) c.self.inside.numbers c.insert.new.self next (next + 1) updates)

pub returns-clause-number : goal.returns-clause-number
returns-clause-number c =
    let next = c.self.inside.next in
    let updates = subst (λ (g : List ℕ). Updates (slice_cmp nat_cmp) c.self.inside.numbers c.insert.new.self g (Some next)) c.in_ok-copy.ensures
    c.in_ok-_none.ensures.updates in
    let none : number_of (groups_in c.self.inside.numbers next) c.args.group.now ≡ None =
    sym (looked-up c.args.group.now c.self.inside.numbers.entries) ∙ sym c.get.ensures.value ∙ sym c.in_default.ensures in
    given-now c.args.group.now (groups_in c.self.inside.numbers next) (groups_in c.insert.new.self (next + 1)) none c.self.invariant refl
    (puts-updated c.args.group.now (Some next) c.self.inside.numbers c.insert.new.self next (next + 1) updates)

pub returns-clause-more : goal.returns-clause-more
returns-clause-more c =
    let next = c.self.inside.next in
    let updates = subst (λ (g : List ℕ). Updates (slice_cmp nat_cmp) c.self.inside.numbers c.insert.new.self g (Some next)) c.in_ok-copy.ensures
    c.in_ok-_none.ensures.updates in
    let none : number_of (groups_in c.self.inside.numbers next) c.args.group.now ≡ None =
    sym (looked-up c.args.group.now c.self.inside.numbers.entries) ∙ sym c.get.ensures.value ∙ sym c.in_default.ensures in
    rw (← c.self.view_is)
    (given-more c.args.group.now (groups_in c.self.inside.numbers next) (groups_in c.insert.new.self (next + 1)) none c.self.invariant refl
    (puts-updated c.args.group.now (Some next) c.self.inside.numbers c.insert.new.self next (next + 1) updates))
