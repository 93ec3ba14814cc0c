use Rattle.std.proofs.lemmas.Result.{err_from_is_err_and}
use Rattle.pool_config.proofs.communities.repeat_among.Goals as goal

pub returns-in_err-add_names : goal.returns-in_err-add_names
returns-in_err-add_names c =
    let p = err_from_is_err_and c.from_residual.result c.from_residual.ensures.1 in
    rw p.1 tt
