use Rattle.std.proofs.Common.{◌≡◌, ◌<◌, ◌≤◌, ◌-◌, ◌+◌, Some, None, true, sym, subst, ◌∙◌, arith}
use Rattle.std.specs.List.{slice_get}
use Rattle.number_sets.specs.RunLists.{IsSetTo}
use Rattle.number_sets.proofs.EditLaws.{put-join, put-last, put-last-end}
use Rattle.number_sets.proofs.RunLaws.{read-at}
use Rattle.number_sets.proofs.CountLaws.{front-remove, front-set}
use Rattle.number_sets.proofs.runs.extend.Goals as goal
use Rattle.number_sets.proofs.runs.extend.Goals.{in_default-via-in-Some+else-saturating_sub-le1, in_default-via-in_default}

pub returns-in-Some-clause-set : goal.returns-in-Some-clause-set
returns-in-Some-clause-set c =
    let here = read-at c.args.runs.now.items c.args.index c.args.number c.index.result.now c.requires.ends c.index.ensures in
    let next : slice_get c.args.runs.now.items (c.args.index + 1) ≡ Some c.in-Some.next = sym (rw c.deref.ensures.value at c.run_at-next.ensures) ∙ c.in-Some.is in
    let near : c.in-Some.next.first - c.args.number ≤ 1 = omega (arith, c.saturating_sub.ensures) in
    subst (IsSetTo 0 c.args.number true c.args.runs.now.items) (sym c.remove-joined.ensures.items)
    (put-join c.args.number c.args.runs.now.items c.args.index c.requires.found c.index.result.now here.0 here.1 c.in-Some.next next near)

pub returns-in_default-clause-set : goal.returns-in_default-clause-set
returns-in_default-clause-set c =
    let here = read-at c.args.runs.now.items c.args.index c.args.number c.index.result.now c.requires.ends c.index.ensures in
    elim c.in_default.branch [
      | in_default-via-in-Some+else-saturating_sub-le1 w ↦
          let next : slice_get c.args.runs.now.items (c.args.index + 1) ≡ Some w.in-Some.next = sym (rw c.deref.ensures.value at c.run_at-next.ensures) ∙ w.in-Some.is in
          let far : 1 < w.in-Some.next.first - c.args.number = omega (arith, w.saturating_sub.ensures) in
          put-last c.args.number c.args.runs.now.items c.args.index c.requires.found c.index.result.now here.0 here.1 w.in-Some.next next far
      | in_default-via-in_default w ↦
          let none : slice_get c.args.runs.now.items (c.args.index + 1) ≡ None = sym (rw c.deref.ensures.value at c.run_at-next.ensures) ∙ w.in_default.is in
          put-last-end c.args.number c.args.runs.now.items c.args.index c.requires.found c.index.result.now here.0 here.1 none
    ]

pub returns-in-Some-clause-kept : goal.returns-in-Some-clause-kept
returns-in-Some-clause-kept c =
    let i = c.args.index in
    rw c.remove-joined.ensures.items (front-remove _ (i + 1) i (omega arith) ∙ front-set c.args.runs.now.items i i _ (omega arith))

pub returns-in_default-clause-kept : goal.returns-in_default-clause-kept
returns-in_default-clause-kept c = front-set c.args.runs.now.items c.args.index c.args.index _ (omega arith)
