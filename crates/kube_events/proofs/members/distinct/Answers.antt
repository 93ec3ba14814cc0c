use Rattle.std.proofs.lemmas.Result.{err_from_is_err_and}
use Rattle.kube_events.proofs.members.distinct.Goals as goal

pub returns-in_err-insert : goal.returns-in_err-insert
returns-in_err-insert c =
    let p = err_from_is_err_and c.from_residual.result c.from_residual.ensures.1 in
    rw p.1 tt
