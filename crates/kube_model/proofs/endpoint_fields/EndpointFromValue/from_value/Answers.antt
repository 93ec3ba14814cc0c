use Rattle.std.proofs.Common.{refl}
use Rattle.std.proofs.lemmas.Result.{err_from_is_err_and}
use Rattle.kube_model.specs.EndpointFields.{endpoint_of}
use Rattle.kube_model.proofs.Fails.{Fails-bind}
use Rattle.kube_model.proofs.endpoint_fields.EndpointFromValue.from_value.Goals as goal

pub returns-in_err-require_object : goal.returns-in_err-require_object
unfolding endpoint_of
returns-in_err-require_object c =
    let p = err_from_is_err_and c.from_residual.result c.from_residual.ensures.1 in
    rw (p.1, p.2) (Fails-bind c.in_err-require_object.field-0.0 _ _ c.in_err-require_object.ensures)

pub returns-in_err-node : goal.returns-in_err-node
unfolding endpoint_of
returns-in_err-node c =
    let p = err_from_is_err_and c.from_residual-in_err-node.result c.from_residual-in_err-node.ensures.1 in
    rw (p.1, p.2, c.in_ok-require_object.ensures) (Fails-bind c.in_err-node.field-0.0 _ _ c.in_err-node.ensures)

pub returns-in_err-ready : goal.returns-in_err-ready
unfolding endpoint_of
returns-in_err-ready c =
    let p = err_from_is_err_and c.from_residual-in_err-ready.result c.from_residual-in_err-ready.ensures.1 in
    rw (p.1, p.2, c.in_ok-require_object.ensures, c.in_ok-node.ensures)
    (Fails-bind c.in_err-ready.field-0.0 _ _ c.in_err-ready.ensures)

pub returns-in_err-serving : goal.returns-in_err-serving
unfolding endpoint_of
returns-in_err-serving c =
    let p = err_from_is_err_and c.from_residual-in_err-serving.result c.from_residual-in_err-serving.ensures.1 in
    rw (p.1, p.2, c.in_ok-require_object.ensures, c.in_ok-node.ensures, c.in_ok-ready.ensures)
    (Fails-bind c.in_err-serving.field-0.0 _ _ c.in_err-serving.ensures)

pub returns : goal.returns
unfolding endpoint_of
returns c = rw (c.in_ok-require_object.ensures, c.in_ok-node.ensures, c.in_ok-ready.ensures, c.in_ok-serving.ensures, c.usable.ensures) refl
