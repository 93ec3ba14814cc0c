use Rattle.std.proofs.Common.{refl}
use Rattle.std.proofs.lemmas.Result.{err_from_is_err_and}
use Rattle.kube_model.specs.AllocationFields.{allocation_of}
use Rattle.kube_model.proofs.Fails.{Fails-bind}
use Rattle.kube_model.proofs.allocation_fields.AllocationFromValue.from_value.Goals as goal

pub returns-in_err-require_object : goal.returns-in_err-require_object
unfolding allocation_of
returns-in_err-require_object c =
    let p = err_from_is_err_and c.from_residual.result c.from_residual.ensures.1 in
    rw (p.1, p.2) (Fails-bind c.in_err-require_object.field-0.0 _ _ c.in_err-require_object.ensures)

pub returns-in_err-priority : goal.returns-in_err-priority
unfolding allocation_of
returns-in_err-priority c =
    let p = err_from_is_err_and c.from_residual-in_err-priority.result c.from_residual-in_err-priority.ensures.1 in
    rw (p.1, p.2, c.in_ok-require_object.ensures) (Fails-bind c.in_err-priority.field-0.0 _ _ c.in_err-priority.ensures.read)

pub returns-in_err-namespaces : goal.returns-in_err-namespaces
unfolding allocation_of
returns-in_err-namespaces c =
    let p = err_from_is_err_and c.from_residual-in_err-namespaces.result c.from_residual-in_err-namespaces.ensures.1 in
    rw (p.1, p.2, c.in_ok-require_object.ensures, c.in_ok-priority.ensures.read)
    (Fails-bind c.in_err-namespaces.field-0.0 _ _ c.in_err-namespaces.ensures)

pub returns-in_err-namespace_selectors : goal.returns-in_err-namespace_selectors
unfolding allocation_of
returns-in_err-namespace_selectors c =
    let p = err_from_is_err_and c.from_residual-in_err-namespace_selectors.result c.from_residual-in_err-namespace_selectors.ensures.1 in
    rw (p.1, p.2, c.in_ok-require_object.ensures, c.in_ok-priority.ensures.read, c.in_ok-namespaces.ensures)
    (Fails-bind c.in_err-namespace_selectors.field-0.0 _ _ c.in_err-namespace_selectors.ensures)

pub returns-in_err-service_selectors : goal.returns-in_err-service_selectors
unfolding allocation_of
returns-in_err-service_selectors c =
    let p = err_from_is_err_and c.from_residual-in_err-service_selectors.result c.from_residual-in_err-service_selectors.ensures.1 in
    rw (p.1, p.2, c.in_ok-require_object.ensures, c.in_ok-priority.ensures.read, c.in_ok-namespaces.ensures, c.in_ok-namespace_selectors.ensures)
    (Fails-bind c.in_err-service_selectors.field-0.0 _ _ c.in_err-service_selectors.ensures)

pub returns : goal.returns
unfolding allocation_of
returns c = rw (
  c.in_ok-require_object.ensures,
  c.in_ok-priority.ensures.read,
  c.in_ok-namespaces.ensures,
  c.in_ok-namespace_selectors.ensures,
  c.in_ok-service_selectors.ensures,
) refl
