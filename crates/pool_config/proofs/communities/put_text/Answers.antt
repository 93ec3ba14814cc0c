use Rattle.std.proofs.lemmas.Result.{err_from_is_err_and}
use Rattle.pool_config.proofs.communities.put_text.Goals as goal

pub returns-in_err-copy-clause-is_new : goal.returns-in_err-copy-clause-is_new
returns-in_err-copy-clause-is_new c =
    let p = err_from_is_err_and c.from_residual.result c.from_residual.ensures.1 in
    rw p.1 tt

pub returns-in_err-copy-clause-put : goal.returns-in_err-copy-clause-put
returns-in_err-copy-clause-put c =
    let p = err_from_is_err_and c.from_residual.result c.from_residual.ensures.1 in
    rw p.1 tt

pub returns-in_err-is_new-clause-is_new : goal.returns-in_err-is_new-clause-is_new
returns-in_err-is_new-clause-is_new c =
    let p = err_from_is_err_and c.from_residual-in_err-is_new.result c.from_residual-in_err-is_new.ensures.1 in
    rw p.1 tt

pub returns-in_err-is_new-clause-put : goal.returns-in_err-is_new-clause-put
returns-in_err-is_new-clause-put c =
    let p = err_from_is_err_and c.from_residual-in_err-is_new.result c.from_residual-in_err-is_new.ensures.1 in
    rw p.1 tt
