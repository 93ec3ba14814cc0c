use Rattle.std.proofs.lemmas.Result.{err_from_is_err_and}
use Rattle.controller_run.specs.Stream.{arrival}
use Rattle.controller_run.proofs.Steps.{means_event, takes, line_halts}
use Rattle.controller_run.proofs.line.take_line.Goals as goal

pub returns-clause-ok : goal.returns-clause-ok
returns-clause-ok g c =
    takes (arrival c.args.core.now c.in_ok-event.event) c.in_ok-note.note c.take_event.new.core c.in_ok-note.ensures.ok c.args.core.now c.tell-told.new.core
    c.args.line _ _
    (means_event c.args.core.now c.args.line c.in_ok-event.event c.requires c.in_ok-event.ensures.ok) (rw c.in_ok-told.was at c.tell-told.ensures.core)
    (rw c.in_ok-told.was at c.tell-told.ensures.ok)

pub returns-in_err-told-clause-err : goal.returns-in_err-told-clause-err
returns-in_err-told-clause-err g c =
    let p = err_from_is_err_and c.from_residual-in_err-told.result c.from_residual-in_err-told.ensures.1 in
    rw (p.1, p.2)
    (line_halts (arrival c.args.core.now c.in_ok-event.event) c.in_ok-note.note c.take_event.new.core c.in_ok-note.ensures.ok c.in_err-told.field-0.0
    c.args.core.now c.args.line _ _ _ _
    (means_event c.args.core.now c.args.line c.in_ok-event.event c.requires c.in_ok-event.ensures.ok) (rw c.in_err-told.was at c.tell-told.ensures.err))
