use Rattle.std.proofs.Common.{refl}
use Rattle.std.proofs.lemmas.Result.{err_from_is_err_and}
use Rattle.kube_events.specs.ObjectFields.{stated_object}
use Rattle.kube_model.proofs.Fails.{Fails-bind}
use Rattle.kube_events.proofs.object_fields.read_object.Goals as goal

pub returns-in_err-key : goal.returns-in_err-key
unfolding stated_object
returns-in_err-key c =
    let p = err_from_is_err_and c.from_residual.result c.from_residual.ensures.1 in
    rw (p.1, p.2) (Fails-bind c.in_err-key.field-0.0 _ _ c.in_err-key.ensures)

pub returns-in_err-labels : goal.returns-in_err-labels
unfolding stated_object
returns-in_err-labels c =
    let p = err_from_is_err_and c.from_residual-in_err-labels.result c.from_residual-in_err-labels.ensures.1 in
    rw (p.1, p.2, c.in_ok-key.ensures) (Fails-bind c.in_err-labels.field-0.0 _ _ c.in_err-labels.ensures)

pub returns-in_err-spec : goal.returns-in_err-spec
unfolding stated_object
returns-in_err-spec c =
    let p = err_from_is_err_and c.from_residual-in_err-spec.result c.from_residual-in_err-spec.ensures.1 in
    rw (p.1, p.2, c.in_ok-key.ensures, c.in_ok-labels.ensures) (Fails-bind c.in_err-spec.field-0.0 _ _ c.in_err-spec.ensures)

pub returns : goal.returns
unfolding stated_object
returns c = rw (c.in_ok-key.ensures, c.in_ok-labels.ensures, c.in_ok-spec.ensures, c.object_with.ensures) refl
