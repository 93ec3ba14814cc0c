use Rattle.std.proofs.Common.{refl}
use Rattle.std.proofs.lemmas.Result.{err_from_is_err_and}
use Rattle.kube_model.specs.SelectorFields.{selector_of}
use Rattle.kube_model.proofs.Fails.{Fails-bind}
use Rattle.kube_model.proofs.selector_fields.SelectorTextFromValue.from_value.Goals as goal

pub returns-in_err-require_object : goal.returns-in_err-require_object
unfolding selector_of
returns-in_err-require_object c =
    let p = err_from_is_err_and c.from_residual.result c.from_residual.ensures.1 in
    rw (p.1, p.2) (Fails-bind c.in_err-require_object.field-0.0 _ _ c.in_err-require_object.ensures)

pub returns-in_err-labels : goal.returns-in_err-labels
unfolding selector_of
returns-in_err-labels c =
    let p = err_from_is_err_and c.from_residual-in_err-labels.result c.from_residual-in_err-labels.ensures.1 in
    rw (p.1, p.2, c.in_ok-require_object.ensures) (Fails-bind c.in_err-labels.field-0.0 _ _ c.in_err-labels.ensures)

pub returns-in_err-expressions : goal.returns-in_err-expressions
unfolding selector_of
returns-in_err-expressions c =
    let p = err_from_is_err_and c.from_residual-in_err-expressions.result c.from_residual-in_err-expressions.ensures.1 in
    rw (p.1, p.2, c.in_ok-require_object.ensures, c.in_ok-labels.ensures) (Fails-bind c.in_err-expressions.field-0.0 _ _ c.in_err-expressions.ensures)

pub returns : goal.returns
unfolding selector_of
returns c = rw (c.in_ok-require_object.ensures, c.in_ok-labels.ensures, c.in_ok-expressions.ensures) refl
