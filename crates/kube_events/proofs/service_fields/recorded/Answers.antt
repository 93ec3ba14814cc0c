use Rattle.std.proofs.Common.{refl}
use Rattle.std.proofs.lemmas.Result.{err_from_is_err_and}
use Rattle.kube_events.specs.ServiceFields.{recorded_of}
use Rattle.kube_model.proofs.Fails.{Fails-bind}
use Rattle.kube_events.proofs.service_fields.recorded.Goals as goal

pub returns-in_err-places : goal.returns-in_err-places
unfolding recorded_of
returns-in_err-places c =
    let p = err_from_is_err_and c.from_residual.result c.from_residual.ensures.1 in
    rw (p.1, p.2) (Fails-bind c.in_err-places.field-0.0 _ _ c.in_err-places.ensures)

pub returns : goal.returns
unfolding recorded_of
returns c = rw (c.in_ok-places.ensures, c.in_ok-addresses_in.ensures) refl
