use Rattle.std.proofs.lemmas.Result.{err_from_is_err_and}
use Rattle.pool_config.proofs.communities.past_texts.Goals as goal

pub returns-in_err-add_texts : goal.returns-in_err-add_texts
returns-in_err-add_texts c =
    let p = err_from_is_err_and c.from_residual.result c.from_residual.ensures.1 in
    rw p.1 tt
