use Rattle.std.proofs.Common.{refl}
use Rattle.std.proofs.lemmas.Result.{err_from_is_err_and}
use Rattle.json_fields.specs.Expressions.{expression_of}
use Rattle.json_fields.proofs.Places.{Fails-bind}
use Rattle.json_fields.proofs.expressions.ExpressionFromValue.from_value.Goals as goal

pub returns-in_err-require_object : goal.returns-in_err-require_object
unfolding expression_of
returns-in_err-require_object c =
    let p = err_from_is_err_and c.from_residual.result c.from_residual.ensures.1 in
    rw (p.1, p.2) (Fails-bind c.in_err-require_object.field-0.0 _ _ c.in_err-require_object.ensures)

pub returns-in_err-key : goal.returns-in_err-key
unfolding expression_of
returns-in_err-key c =
    let p = err_from_is_err_and c.from_residual-in_err-key.result c.from_residual-in_err-key.ensures.1 in
    rw (p.1, p.2, c.in_ok-require_object.ensures) (Fails-bind c.in_err-key.field-0.0 _ _ c.in_err-key.ensures)

pub returns-in_err-operator : goal.returns-in_err-operator
unfolding expression_of
returns-in_err-operator c =
    let p = err_from_is_err_and c.from_residual-in_err-operator.result c.from_residual-in_err-operator.ensures.1 in
    rw (p.1, p.2, c.in_ok-require_object.ensures, c.in_ok-key.ensures)
    (Fails-bind c.in_err-operator.field-0.0 _ _ c.in_err-operator.ensures)

pub returns-in_err-values : goal.returns-in_err-values
unfolding expression_of
returns-in_err-values c =
    let p = err_from_is_err_and c.from_residual-in_err-values.result c.from_residual-in_err-values.ensures.1 in
    rw (p.1, p.2, c.in_ok-require_object.ensures, c.in_ok-key.ensures, c.in_ok-operator.ensures)
    (Fails-bind c.in_err-values.field-0.0 _ _ c.in_err-values.ensures)

pub returns : goal.returns
unfolding expression_of
returns c = rw (c.in_ok-require_object.ensures, c.in_ok-key.ensures, c.in_ok-operator.ensures, c.in_ok-values.ensures) refl
