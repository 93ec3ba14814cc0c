use Rattle.std.proofs.Common.{◌≡◌, Some, None, sym, ◌∙◌}
use Rattle.std.specs.List.{slice_get}
use Rattle.number_sets.proofs.EditLaws.{past-absent, front-absent}
use Rattle.number_sets.proofs.RunLaws.{run-of}
use Rattle.number_sets.proofs.runs.run_of.Goals as goal

pub returns-in_err-run-clause-none : goal.returns-in_err-run-clause-none
returns-in_err-run-clause-none c =
    let none : slice_get c.args.runs.now c.first_from.result ≡ None = sym c.run_at.ensures ∙ c.in_err-run.was in
    rw c.from_residual.ensures (past-absent c.args.number c.args.runs.now c.first_from.result c.first_from.ensures none)

pub returns-then-run-number-clause-some : goal.returns-then-run-number-clause-some
returns-then-run-number-clause-some c =
    let found = c.first_from.ensures in
    let here : slice_get c.args.runs.now c.first_from.result ≡ Some c.in_ok-run.run' = sym c.run_at.ensures ∙ c.in_ok-run.was in
    run-of c.args.number c.args.runs.now c.first_from.result c.in_ok-run.run' found.apart found.point found.within here c.if-run-number.true

pub returns-else-run-number-clause-none : goal.returns-else-run-number-clause-none
returns-else-run-number-clause-none c =
    let here : slice_get c.args.runs.now c.first_from.result ≡ Some c.in_ok-run.run' = sym c.run_at.ensures ∙ c.in_ok-run.was in
    front-absent c.args.number c.args.runs.now c.first_from.result c.first_from.ensures c.in_ok-run.run' here c.if-run-number.false
