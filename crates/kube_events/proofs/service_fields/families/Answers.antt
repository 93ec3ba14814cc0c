use Rattle.std.proofs.lemmas.Result.{err_from_is_err_and}
use Rattle.kube_events.specs.ServiceFields.{families_at}
use Rattle.kube_model.proofs.Fails.{Fails-bind}
use Rattle.kube_events.proofs.service_fields.families.Goals as goal

pub returns-in_err-named : goal.returns-in_err-named
unfolding families_at
returns-in_err-named c =
    let p = err_from_is_err_and c.from_residual.result c.from_residual.ensures.1 in
    rw (p.1, p.2) (Fails-bind c.in_err-named.field-0.0 _ _ c.in_err-named.ensures)
