use Rattle.std.proofs.Common.{refl}
use Rattle.std.proofs.lemmas.Result.{err_from_is_err_and}
use Rattle.controller_run.specs.Lanes.{item_step}
use Rattle.controller_run.proofs.Steps.{item_halts}
use Rattle.controller_run.proofs.lanes.drive_item.Goals as goal

pub returns-in_err-told-clause-err : goal.returns-in_err-told-clause-err
returns-in_err-told-clause-err g c =
    let p = err_from_is_err_and c.from_residual-in_err-told.result c.from_residual-in_err-told.ensures.1 in
    rw (p.1, p.2)
    (item_halts (item_step c.args.core.now c.args.item) c.in_ok-note.note c.take_from.new.core c.in_ok-note.ensures.ok c.in_err-told.field-0.0 c.args.core.now
    c.args.item _ _ _ _ refl (rw c.in_err-told.was at c.tell_item-told.ensures.err))
