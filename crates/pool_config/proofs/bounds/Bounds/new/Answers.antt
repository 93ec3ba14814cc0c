use Rattle.std.proofs.lemmas.Result.{err_from_is_err_and}
use Rattle.pool_config.proofs.bounds.Bounds.new.Goals as goal

pub returns-in_err-v4 : goal.returns-in_err-v4
returns-in_err-v4 c =
    let p = err_from_is_err_and c.from_residual.result c.from_residual.ensures.1 in
    rw p.1 tt
