use Rattle.std.proofs.Common.{refl}
use Rattle.std.proofs.lemmas.Result.{err_from_is_err_and}
use Rattle.kube_events.specs.ServiceFields.{request_of}
use Rattle.kube_model.proofs.Fails.{Fails-bind}
use Rattle.kube_events.proofs.service_fields.request_from.Goals as goal

pub returns-in_err-balancer : goal.returns-in_err-balancer
unfolding request_of
returns-in_err-balancer c =
    let p = err_from_is_err_and c.from_residual.result c.from_residual.ensures.1 in
    rw (p.1, p.2) (Fails-bind c.in_err-balancer.field-0.0 _ _ c.in_err-balancer.ensures)

pub returns-in_err-class : goal.returns-in_err-class
unfolding request_of
returns-in_err-class c =
    let p = err_from_is_err_and c.from_residual-in_err-class.result c.from_residual-in_err-class.ensures.1 in
    rw (p.1, p.2, c.in_ok-balancer.ensures) (Fails-bind c.in_err-class.field-0.0 _ _ c.in_err-class.ensures)

pub returns-in_err-address : goal.returns-in_err-address
unfolding request_of
returns-in_err-address c =
    let p = err_from_is_err_and c.from_residual-in_err-address.result c.from_residual-in_err-address.ensures.1 in
    rw (p.1, p.2, c.in_ok-balancer.ensures, c.in_ok-class.ensures) (Fails-bind c.in_err-address.field-0.0 _ _ c.in_err-address.ensures)

pub returns : goal.returns
unfolding request_of
returns c = rw (c.in_ok-balancer.ensures, c.in_ok-class.ensures, c.in_ok-address.ensures) refl
