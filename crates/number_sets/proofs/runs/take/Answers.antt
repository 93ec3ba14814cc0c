use Rattle.std.proofs.Common.{◌≡◌, ◌≤◌, ◌+◌, Some, None, false, sym, subst, ◌∙◌, arith}
use Rattle.std.proofs.lemmas.Option.{slice_get_within}
use Rattle.std.specs.List.{slice_get}
use Rattle.number_sets.specs.RunLists.{IsSetTo}
use Rattle.number_sets.proofs.EditLaws.{past-absent, front-absent, there, take-single, take-first, take-last, take-middle}
use Rattle.number_sets.proofs.RunLaws.{set-same, ends-from, fewer-runs}
use Rattle.number_sets.proofs.CountLaws.{front-cut, front-remove, front-set}
use Rattle.number_sets.proofs.runs.take.Goals as goal

pub returns-in_default-clause-set : goal.returns-in_default-clause-set
returns-in_default-clause-set c =
    let none : slice_get c.args.runs.now.items c.args.index ≡ None = sym (rw c.deref.ensures.value at c.run_at.ensures) ∙ c.in_default.is in
    set-same c.args.number false c.args.runs.now.items c.requires.found.apart
    (past-absent c.args.number c.args.runs.now.items c.args.index c.requires.found none)

pub returns-in_default-clause-taken : goal.returns-in_default-clause-taken
returns-in_default-clause-taken c =
    let none : slice_get c.args.runs.now.items c.args.index ≡ None = sym (rw c.deref.ensures.value at c.run_at.ensures) ∙ c.in_default.is in
    sym (past-absent c.args.number c.args.runs.now.items c.args.index c.requires.found none)

pub returns-then-number-run-clause-set : goal.returns-then-number-run-clause-set
returns-then-number-run-clause-set c =
    let here : slice_get c.args.runs.now.items c.args.index ≡ Some c.in-Some.run' = sym (rw c.deref.ensures.value at c.run_at.ensures) ∙ c.in-Some.is in
    set-same c.args.number false c.args.runs.now.items c.requires.found.apart
    (front-absent c.args.number c.args.runs.now.items c.args.index c.requires.found c.in-Some.run' here c.if-number-run.true)

pub returns-then-number-run-clause-taken : goal.returns-then-number-run-clause-taken
returns-then-number-run-clause-taken c =
    let here : slice_get c.args.runs.now.items c.args.index ≡ Some c.in-Some.run' = sym (rw c.deref.ensures.value at c.run_at.ensures) ∙ c.in-Some.is in
    sym (front-absent c.args.number c.args.runs.now.items c.args.index c.requires.found c.in-Some.run' here c.if-number-run.true)

pub remove-single-requires : goal.remove-single-requires
remove-single-requires c =
    let here : slice_get c.args.runs.now.items c.args.index ≡ Some c.in-Some.run' = sym (rw c.deref.ensures.value at c.run_at.ensures) ∙ c.in-Some.is in
    omega (arith, slice_get_within c.args.runs.now.items c.args.index c.in-Some.run' here, c.args.runs.now.ok)

pub index_mut-requires : goal.index_mut-requires
index_mut-requires c =
    let here : slice_get c.args.runs.now.items c.args.index ≡ Some c.in-Some.run' = sym (rw c.deref.ensures.value at c.run_at.ensures) ∙ c.in-Some.is in
    omega (arith, slice_get_within c.args.runs.now.items c.args.index c.in-Some.run' here, c.args.runs.now.ok)

pub index_mut-requires-else-number-run-2 : goal.index_mut-requires-else-number-run-2
index_mut-requires-else-number-run-2 c =
    let here : slice_get c.args.runs.now.items c.args.index ≡ Some c.in-Some.run' = sym (rw c.deref.ensures.value at c.run_at.ensures) ∙ c.in-Some.is in
    omega (arith, slice_get_within c.args.runs.now.items c.args.index c.in-Some.run' here, c.args.runs.now.ok)

pub place-requires-clause-index : goal.place-requires-clause-index
place-requires-clause-index c =
    let here : slice_get c.args.runs.now.items c.args.index ≡ Some c.in-Some.run' = sym (rw c.deref.ensures.value at c.run_at.ensures) ∙ c.in-Some.is in
    omega (arith, slice_get_within c.args.runs.now.items c.args.index c.in-Some.run' here, c.args.runs.now.ok)

pub overflow_add-number : goal.overflow_add-number
overflow_add-number c =
    let here : slice_get c.args.runs.now.items c.args.index ≡ Some c.in-Some.run' = sym (rw c.deref.ensures.value at c.run_at.ensures) ∙ c.in-Some.is in
    let ends = ends-from c.args.number c.args.runs.now.items c.args.index c.in-Some.run' c.requires.found.point here in
    omega (arith, ends)

pub place-requires-clause-room : goal.place-requires-clause-room
place-requires-clause-room c =
    let here : slice_get c.args.runs.now.items c.args.index ≡ Some c.in-Some.run' = sym (rw c.deref.ensures.value at c.run_at.ensures) ∙ c.in-Some.is in
    let long : c.in-Some.run'.first + 2 ≤ c.in-Some.run'.last = omega arith in
    omega (arith, fewer-runs 0 c.args.runs.now.items c.args.index c.in-Some.run' c.requires.found.apart here long, c.args.runs.now.ok)

pub returns-then-run-clause-set : goal.returns-then-run-clause-set
returns-then-run-clause-set c =
    let here : slice_get c.args.runs.now.items c.args.index ≡ Some c.in-Some.run' = sym (rw c.deref.ensures.value at c.run_at.ensures) ∙ c.in-Some.is in
    subst (IsSetTo 0 c.args.number false c.args.runs.now.items) (sym c.remove-single.ensures.items)
    (take-single c.args.number c.args.runs.now.items c.args.index c.requires.found c.in-Some.run' here c.if-number-run.false c.if-run.true)

pub returns-then-run-clause-taken : goal.returns-then-run-clause-taken
returns-then-run-clause-taken c =
    let here : slice_get c.args.runs.now.items c.args.index ≡ Some c.in-Some.run' = sym (rw c.deref.ensures.value at c.run_at.ensures) ∙ c.in-Some.is in
    sym (there c.args.number c.args.runs.now.items c.args.index c.requires.found c.in-Some.run' here c.if-number-run.false)

pub returns-then-number-run-2-clause-set : goal.returns-then-number-run-2-clause-set
returns-then-number-run-2-clause-set c =
    let here : slice_get c.args.runs.now.items c.args.index ≡ Some c.in-Some.run' = sym (rw c.deref.ensures.value at c.run_at.ensures) ∙ c.in-Some.is in
    take-first c.args.number c.args.runs.now.items c.args.index c.requires.found c.in-Some.run' here c.if-number-run-2.true c.if-run.false

pub returns-then-number-run-2-clause-taken : goal.returns-then-number-run-2-clause-taken
returns-then-number-run-2-clause-taken c =
    let here : slice_get c.args.runs.now.items c.args.index ≡ Some c.in-Some.run' = sym (rw c.deref.ensures.value at c.run_at.ensures) ∙ c.in-Some.is in
    sym (there c.args.number c.args.runs.now.items c.args.index c.requires.found c.in-Some.run' here c.if-number-run.false)

pub returns-then-number-run-3-clause-set : goal.returns-then-number-run-3-clause-set
returns-then-number-run-3-clause-set c =
    let here : slice_get c.args.runs.now.items c.args.index ≡ Some c.in-Some.run' = sym (rw c.deref.ensures.value at c.run_at.ensures) ∙ c.in-Some.is in
    subst (IsSetTo 0 c.args.number false c.args.runs.now.items) (sym c.place.ensures.items)
    (take-middle c.args.number c.args.runs.now.items c.args.index c.requires.found c.in-Some.run' here (omega arith) c.if-number-run-3.true)

pub returns-then-number-run-3-clause-taken : goal.returns-then-number-run-3-clause-taken
returns-then-number-run-3-clause-taken c =
    let here : slice_get c.args.runs.now.items c.args.index ≡ Some c.in-Some.run' = sym (rw c.deref.ensures.value at c.run_at.ensures) ∙ c.in-Some.is in
    sym (there c.args.number c.args.runs.now.items c.args.index c.requires.found c.in-Some.run' here c.if-number-run.false)

pub returns-else-number-run-3-clause-set : goal.returns-else-number-run-3-clause-set
returns-else-number-run-3-clause-set c =
    let here : slice_get c.args.runs.now.items c.args.index ≡ Some c.in-Some.run' = sym (rw c.deref.ensures.value at c.run_at.ensures) ∙ c.in-Some.is in
    take-last c.args.number c.args.runs.now.items c.args.index c.requires.found c.in-Some.run' here (omega arith) c.if-number-run-3.false

pub returns-else-number-run-3-clause-taken : goal.returns-else-number-run-3-clause-taken
returns-else-number-run-3-clause-taken c =
    let here : slice_get c.args.runs.now.items c.args.index ≡ Some c.in-Some.run' = sym (rw c.deref.ensures.value at c.run_at.ensures) ∙ c.in-Some.is in
    sym (there c.args.number c.args.runs.now.items c.args.index c.requires.found c.in-Some.run' here c.if-number-run.false)

pub returns-then-run-clause-kept : goal.returns-then-run-clause-kept
returns-then-run-clause-kept c =
    let i = c.args.index in
    rw c.remove-single.ensures.items (front-remove c.args.runs.now.items i i (omega arith))

pub returns-then-number-run-2-clause-kept : goal.returns-then-number-run-2-clause-kept
returns-then-number-run-2-clause-kept c = front-set c.args.runs.now.items c.args.index c.args.index _ (omega arith)

pub returns-then-number-run-3-clause-kept : goal.returns-then-number-run-3-clause-kept
returns-then-number-run-3-clause-kept c =
    let here : slice_get c.args.runs.now.items c.args.index ≡ Some c.in-Some.run' = sym (rw c.deref.ensures.value at c.run_at.ensures) ∙ c.in-Some.is in
    rw c.place.ensures.items (front-cut c.args.runs.now.items c.args.index _ _ (slice_get_within c.args.runs.now.items c.args.index c.in-Some.run' here))

pub returns-else-number-run-3-clause-kept : goal.returns-else-number-run-3-clause-kept
returns-else-number-run-3-clause-kept c = front-set c.args.runs.now.items c.args.index c.args.index _ (omega arith)
