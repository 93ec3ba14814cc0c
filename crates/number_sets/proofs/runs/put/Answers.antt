use Rattle.std.proofs.Common.{◌≡◌, ◌<◌, ◌-◌, Some, None, true, not, length, sym, ap, subst, ◌∙◌, arith}
use Rattle.std.proofs.lemmas.Option.{slice_get_within}
use Rattle.std.specs.List.{slice_get}
use Rattle.number_sets.specs.RunLists.{IsSetTo}
use Rattle.number_sets.proofs.EditLaws.{put-end, put-end-absent, put-new, put-first, put-front-absent, put-same, put-last-ends, put-last-absent}
use Rattle.number_sets.proofs.RunLaws.{ends-at, has-at}
use Rattle.number_sets.proofs.CountLaws.{front-insert, front-set}
use Rattle.number_sets.proofs.runs.put.Goals as goal

pub returns-in_default-clause-set : goal.returns-in_default-clause-set
returns-in_default-clause-set c =
    let none : slice_get c.args.runs.now.items c.args.index ≡ None = sym (rw c.deref.ensures.value at c.run_at.ensures) ∙ c.in_default.is in
    subst (IsSetTo 0 c.args.number true c.args.runs.now.items) (sym c.place.ensures.items)
    (put-end c.args.number c.args.runs.now.items c.args.index c.requires.found none)

pub returns-in_default-clause-added : goal.returns-in_default-clause-added
returns-in_default-clause-added c =
    let none : slice_get c.args.runs.now.items c.args.index ≡ None = sym (rw c.deref.ensures.value at c.run_at.ensures) ∙ c.in_default.is in
    sym (ap not (put-end-absent c.args.number c.args.runs.now.items c.args.index c.requires.found none))

pub index_mut-requires : goal.index_mut-requires
index_mut-requires c =
    let here : slice_get c.args.runs.now.items c.args.index ≡ Some c.in-Some.run' = sym (rw c.deref.ensures.value at c.run_at.ensures) ∙ c.in-Some.is in
    omega (arith, slice_get_within c.args.runs.now.items c.args.index c.in-Some.run' here, ap length c.deref.ensures.value)

pub extend-requires-clause-ends : goal.extend-requires-clause-ends
extend-requires-clause-ends c =
    let here : slice_get c.args.runs.now.items c.args.index ≡ Some c.in-Some.run' = sym (rw c.deref.ensures.value at c.run_at.ensures) ∙ c.in-Some.is in
    ends-at (slice_get c.args.runs.now.items c.args.index) c.args.number c.in-Some.run' here
    (put-last-ends c.args.number c.args.runs.now.items c.args.index c.requires.found c.in-Some.run' here c.if-run-number.true)

pub returns-else-run-number-clause-set : goal.returns-else-run-number-clause-set
returns-else-run-number-clause-set c =
    let here : slice_get c.args.runs.now.items c.args.index ≡ Some c.in-Some.run' = sym (rw c.deref.ensures.value at c.run_at.ensures) ∙ c.in-Some.is in
    put-same c.args.number c.args.runs.now.items c.args.index c.requires.found c.in-Some.run' here c.if-number-run.false c.if-run-number.false

pub returns-else-run-number-clause-added : goal.returns-else-run-number-clause-added
returns-else-run-number-clause-added c =
    let here : slice_get c.args.runs.now.items c.args.index ≡ Some c.in-Some.run' = sym (rw c.deref.ensures.value at c.run_at.ensures) ∙ c.in-Some.is in
    sym (ap not (has-at c.args.runs.now.items c.args.index c.in-Some.run' c.args.number here c.if-number-run.false c.if-run-number.false))

pub returns-then-saturating_sub-gt1-clause-set : goal.returns-then-saturating_sub-gt1-clause-set
returns-then-saturating_sub-gt1-clause-set c =
    let here : slice_get c.args.runs.now.items c.args.index ≡ Some c.in-Some.run' = sym (rw c.deref.ensures.value at c.run_at.ensures) ∙ c.in-Some.is in
    let far : 1 < c.in-Some.run'.first - c.args.number = omega arith in
    subst (IsSetTo 0 c.args.number true c.args.runs.now.items) (sym c.place-then-saturating_sub-gt1.ensures.items)
    (put-new c.args.number c.args.runs.now.items c.args.index c.requires.found c.in-Some.run' here far)

pub returns-then-saturating_sub-gt1-clause-added : goal.returns-then-saturating_sub-gt1-clause-added
returns-then-saturating_sub-gt1-clause-added c =
    let here : slice_get c.args.runs.now.items c.args.index ≡ Some c.in-Some.run' = sym (rw c.deref.ensures.value at c.run_at.ensures) ∙ c.in-Some.is in
    sym (ap not (put-front-absent c.args.number c.args.runs.now.items c.args.index c.requires.found c.in-Some.run' here (omega arith)))

pub returns-then-number-run-clause-set : goal.returns-then-number-run-clause-set
returns-then-number-run-clause-set c =
    let here : slice_get c.args.runs.now.items c.args.index ≡ Some c.in-Some.run' = sym (rw c.deref.ensures.value at c.run_at.ensures) ∙ c.in-Some.is in
    put-first c.args.number c.args.runs.now.items c.args.index c.requires.found c.in-Some.run' here (omega arith) c.if-number-run.true

pub returns-then-number-run-clause-added : goal.returns-then-number-run-clause-added
returns-then-number-run-clause-added c =
    let here : slice_get c.args.runs.now.items c.args.index ≡ Some c.in-Some.run' = sym (rw c.deref.ensures.value at c.run_at.ensures) ∙ c.in-Some.is in
    sym (ap not (put-front-absent c.args.number c.args.runs.now.items c.args.index c.requires.found c.in-Some.run' here c.if-number-run.true))

pub returns-then-run-number-clause-added : goal.returns-then-run-number-clause-added
returns-then-run-number-clause-added c =
    let here : slice_get c.args.runs.now.items c.args.index ≡ Some c.in-Some.run' = sym (rw c.deref.ensures.value at c.run_at.ensures) ∙ c.in-Some.is in
    sym (ap not (put-last-absent c.args.number c.args.runs.now.items c.args.index c.requires.found c.in-Some.run' here c.if-run-number.true))

pub returns-in_default-clause-kept : goal.returns-in_default-clause-kept
returns-in_default-clause-kept c =
    let i = c.args.index in
    rw c.place.ensures.items (front-insert c.args.runs.now.items i i _ (omega arith) c.requires.found.within)

pub returns-then-saturating_sub-gt1-clause-kept : goal.returns-then-saturating_sub-gt1-clause-kept
returns-then-saturating_sub-gt1-clause-kept c =
    let i = c.args.index in
    rw c.place-then-saturating_sub-gt1.ensures.items (front-insert c.args.runs.now.items i i _ (omega arith) c.requires.found.within)

pub returns-then-number-run-clause-kept : goal.returns-then-number-run-clause-kept
returns-then-number-run-clause-kept c = front-set c.args.runs.now.items c.args.index c.args.index _ (omega arith)
