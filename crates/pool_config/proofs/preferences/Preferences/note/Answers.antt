use Rattle.std.proofs.lemmas.Result.{err_from_is_err_and}
use Rattle.pool_config.proofs.preferences.Preferences.note.Goals as goal

pub returns-in_err-_before-clause-noted : goal.returns-in_err-_before-clause-noted
returns-in_err-_before-clause-noted c =
    let p = err_from_is_err_and c.from_residual.result c.from_residual.ensures.1 in
    rw p.1 tt

pub returns-in_err-_before-clause-kept : goal.returns-in_err-_before-clause-kept
returns-in_err-_before-clause-kept c =
    let p = err_from_is_err_and c.from_residual.result c.from_residual.ensures.1 in
    rw p.1 tt
