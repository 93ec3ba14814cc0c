use Rattle.std.proofs.lemmas.Result.{err_from_is_err_and}
use Rattle.pool_config.proofs.communities.add_texts.Goals as goal

pub returns-in_err-_is_new : goal.returns-in_err-_is_new
returns-in_err-_is_new c =
    let p = err_from_is_err_and c.from_residual.result c.from_residual.ensures.1 in
    rw p.1 tt
