use Rattle.std.proofs.lemmas.Result.{err_from_is_err_and}
use Rattle.kube_events.specs.CommunityFields.{named_value_of}
use Rattle.kube_model.proofs.Fails.{Fails-bind}
use Rattle.kube_events.proofs.community_fields.NamedValueFromValue.from_value.Goals as goal

pub returns-in_err-require_object : goal.returns-in_err-require_object
unfolding named_value_of
returns-in_err-require_object c =
    let p = err_from_is_err_and c.from_residual.result c.from_residual.ensures.1 in
    rw (p.1, p.2) (Fails-bind c.in_err-require_object.field-0.0 _ _ c.in_err-require_object.ensures)

pub returns-in_err-name : goal.returns-in_err-name
unfolding named_value_of
returns-in_err-name c =
    let p = err_from_is_err_and c.from_residual-in_err-name.result c.from_residual-in_err-name.ensures.1 in
    rw (p.1, p.2, c.in_ok-require_object.ensures) (Fails-bind c.in_err-name.field-0.0 _ _ c.in_err-name.ensures)

pub returns-in_err-value : goal.returns-in_err-value
unfolding named_value_of
returns-in_err-value c =
    let p = err_from_is_err_and c.from_residual-in_err-value.result c.from_residual-in_err-value.ensures.1 in
    rw (p.1, p.2, c.in_ok-require_object.ensures, c.in_ok-name.ensures) (Fails-bind c.in_err-value.field-0.0 _ _ c.in_err-value.ensures)
