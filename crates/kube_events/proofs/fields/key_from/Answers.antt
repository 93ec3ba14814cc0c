use Rattle.std.proofs.lemmas.Result.{err_from_is_err_and}
use Rattle.kube_events.specs.Fields.{key_of}
use Rattle.kube_model.proofs.Fails.{Fails-bind}
use Rattle.kube_events.proofs.fields.key_from.Goals as goal

pub returns-in_err-name : goal.returns-in_err-name
unfolding key_of
returns-in_err-name c =
    let p = err_from_is_err_and c.from_residual.result c.from_residual.ensures.1 in
    rw (p.1, p.2) (Fails-bind c.in_err-name.field-0.0 _ _ c.in_err-name.ensures)

pub returns-in_err-namespace-in-Pool : goal.returns-in_err-namespace-in-Pool
returns-in_err-namespace-in-Pool c =
    let p = err_from_is_err_and c.from_residual-in_err-namespace-in-Pool.result c.from_residual-in_err-namespace-in-Pool.ensures.1 in
    rw (p.1, p.2) tt
