use Rattle.std.proofs.Common.{refl}
use Rattle.std.proofs.lemmas.Result.{err_from_is_err_and}
use Rattle.kube_events.specs.PoolFields.{pool_of}
use Rattle.kube_model.proofs.Fails.{Fails-bind}
use Rattle.kube_events.proofs.pool_fields.pool_spec.Goals as goal

pub returns-in_err-entries : goal.returns-in_err-entries
unfolding pool_of
returns-in_err-entries c =
    let p = err_from_is_err_and c.from_residual.result c.from_residual.ensures.1 in
    rw (p.1, p.2) (Fails-bind c.in_err-entries.field-0.0 _ _ c.in_err-entries.ensures)

pub returns-in_err-auto_assign : goal.returns-in_err-auto_assign
unfolding pool_of
returns-in_err-auto_assign c =
    let p = err_from_is_err_and c.from_residual-in_err-auto_assign.result c.from_residual-in_err-auto_assign.ensures.1 in
    rw (p.1, p.2, c.in_ok-entries.ensures) (Fails-bind c.in_err-auto_assign.field-0.0 _ _ c.in_err-auto_assign.ensures)

pub returns-in_err-avoid_buggy : goal.returns-in_err-avoid_buggy
unfolding pool_of
returns-in_err-avoid_buggy c =
    let p = err_from_is_err_and c.from_residual-in_err-avoid_buggy.result c.from_residual-in_err-avoid_buggy.ensures.1 in
    rw (p.1, p.2, c.in_ok-entries.ensures, c.in_ok-auto_assign.ensures) (Fails-bind c.in_err-avoid_buggy.field-0.0 _ _ c.in_err-avoid_buggy.ensures)

pub returns-in_err-allocation : goal.returns-in_err-allocation
unfolding pool_of
returns-in_err-allocation c =
    let p = err_from_is_err_and c.from_residual-in_err-allocation.result c.from_residual-in_err-allocation.ensures.1 in
    rw (p.1, p.2, c.in_ok-entries.ensures, c.in_ok-auto_assign.ensures, c.in_ok-avoid_buggy.ensures)
    (Fails-bind c.in_err-allocation.field-0.0 _ _ c.in_err-allocation.ensures)

pub returns : goal.returns
unfolding pool_of
returns c = rw (c.in_ok-entries.ensures, c.in_ok-auto_assign.ensures, c.in_ok-avoid_buggy.ensures, c.in_ok-allocation.ensures) refl
