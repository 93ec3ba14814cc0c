use Rattle.std.proofs.Common.{refl}
use Rattle.std.proofs.lemmas.Result.{err_from_is_err_and}
use Rattle.kube_events.specs.ObjectFields.{deleted_of}
use Rattle.kube_model.proofs.Fails.{Fails-bind}
use Rattle.kube_events.proofs.object_fields.deleted_from.Goals as goal

pub returns-in_err-key : goal.returns-in_err-key
unfolding deleted_of
returns-in_err-key c =
    let p = err_from_is_err_and c.from_residual.result c.from_residual.ensures.1 in
    rw (p.1, p.2) (Fails-bind c.in_err-key.field-0.0 _ _ c.in_err-key.ensures)

pub returns-in_err-_version : goal.returns-in_err-_version
unfolding deleted_of
returns-in_err-_version c =
    let p = err_from_is_err_and c.from_residual-in_err-_version.result c.from_residual-in_err-_version.ensures.1 in
    rw (p.1, p.2, c.in_ok-key.ensures) (Fails-bind c.in_err-_version.field-0.0 _ _ c.in_err-_version.ensures)

pub returns : goal.returns
unfolding deleted_of
returns c = rw (c.in_ok-key.ensures, c.in_ok-_version.ensures) refl
