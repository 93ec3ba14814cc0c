use Rattle.std.proofs.lemmas.Result.{err_from_is_err_and}
use Rattle.pool_config.proofs.communities.add_names.Goals as goal

pub returns-in_err-put_text-clause-repeated : goal.returns-in_err-put_text-clause-repeated
returns-in_err-put_text-clause-repeated c =
    let p = err_from_is_err_and c.from_residual.result c.from_residual.ensures.1 in
    rw p.1 tt

pub returns-in_err-put_text-clause-added : goal.returns-in_err-put_text-clause-added
returns-in_err-put_text-clause-added c =
    let p = err_from_is_err_and c.from_residual.result c.from_residual.ensures.1 in
    rw p.1 tt
