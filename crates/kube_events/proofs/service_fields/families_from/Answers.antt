use Rattle.std.proofs.lemmas.Result.{err_from_is_err_and}
use Rattle.kube_events.proofs.service_fields.families_from.Goals as goal

pub returns-in_err-one-in-empty : goal.returns-in_err-one-in-empty
returns-in_err-one-in-empty c =
    let p = err_from_is_err_and c.from_residual.result c.from_residual.ensures.1 in
    rw (p.1, p.2) tt

pub returns-in_err-one-in-len1 : goal.returns-in_err-one-in-len1
returns-in_err-one-in-len1 c =
    let p = err_from_is_err_and c.from_residual-in_err-one-in-len1.result c.from_residual-in_err-one-in-len1.ensures.1 in
    rw (p.1, p.2) tt

pub returns-in_err-two-in-len2 : goal.returns-in_err-two-in-len2
returns-in_err-two-in-len2 c =
    let p = err_from_is_err_and c.from_residual-in_err-two-in-len2.result c.from_residual-in_err-two-in-len2.ensures.1 in
    rw (p.1, p.2) tt
