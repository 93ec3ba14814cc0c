use Rattle.std.proofs.lemmas.Result.{err_from_is_err_and}
use Rattle.pool_config.proofs.reading.read_choice.Goals as goal

pub returns-in_err-communities-clause-communities : goal.returns-in_err-communities-clause-communities
returns-in_err-communities-clause-communities c =
    let p = err_from_is_err_and c.from_residual.result c.from_residual.ensures.1 in
    rw p.1 tt

pub returns-in_err-communities-clause-large : goal.returns-in_err-communities-clause-large
returns-in_err-communities-clause-large c =
    let p = err_from_is_err_and c.from_residual.result c.from_residual.ensures.1 in
    rw p.1 tt

pub returns-in_err-communities-clause-pools : goal.returns-in_err-communities-clause-pools
returns-in_err-communities-clause-pools c =
    let p = err_from_is_err_and c.from_residual.result c.from_residual.ensures.1 in
    rw p.1 tt

pub returns-in_err-communities-clause-nodes : goal.returns-in_err-communities-clause-nodes
returns-in_err-communities-clause-nodes c =
    let p = err_from_is_err_and c.from_residual.result c.from_residual.ensures.1 in
    rw p.1 tt
