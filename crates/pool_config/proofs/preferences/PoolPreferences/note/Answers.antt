use Rattle.std.proofs.Common.{sym, ◌∙◌}
use Rattle.std.proofs.lemmas.Bool.{false≢true}
use Rattle.std.proofs.lemmas.Result.{err_from_is_err_and}
use Rattle.pool_config.proofs.preferences.PoolPreferences.note.Goals as goal

pub returns-in_err-note-clause-v4 : goal.returns-in_err-note-clause-v4
returns-in_err-note-clause-v4 c =
    let p = err_from_is_err_and c.from_residual.result c.from_residual.ensures.1 in
    rw p.1 tt

pub returns-in_err-note-clause-v6 : goal.returns-in_err-note-clause-v6
returns-in_err-note-clause-v6 c =
    let p = err_from_is_err_and c.from_residual.result c.from_residual.ensures.1 in
    rw p.1 tt

pub returns-in_err-note-2-clause-v4 : goal.returns-in_err-note-2-clause-v4
returns-in_err-note-2-clause-v4 c =
    let p = err_from_is_err_and c.from_residual-in_err-note-2.result c.from_residual-in_err-note-2.ensures.1 in
    rw p.1 tt

pub returns-in_err-note-2-clause-v6 : goal.returns-in_err-note-2-clause-v6
returns-in_err-note-2-clause-v6 c =
    let p = err_from_is_err_and c.from_residual-in_err-note-2.result c.from_residual-in_err-note-2.ensures.1 in
    rw p.1 tt

pub returns-in_ok-note-2-clause-v4 : goal.returns-in_ok-note-2-clause-v4
returns-in_ok-note-2-clause-v4 c = (c.in_ok-note.ensures.kept, λ yes. (rw c.bits.ensures.number at c.in_ok-note.ensures.noted))

pub returns-in_ok-note-2-clause-v6 : goal.returns-in_ok-note-2-clause-v6
returns-in_ok-note-2-clause-v6 c = (c.in_ok-note-2.ensures.kept, λ yes. (rw c.bits-then-chooses.ensures.number at c.in_ok-note-2.ensures.noted))

pub returns-else-chooses-clause-v4 : goal.returns-else-chooses-clause-v4
returns-else-chooses-clause-v4 c = (λ length preference known. known, λ yes. absurd (false≢true (sym c.if-chooses.false ∙ c.chooses.ensures.value ∙ yes)))

pub returns-else-chooses-clause-v6 : goal.returns-else-chooses-clause-v6
returns-else-chooses-clause-v6 c = (λ length preference known. known, λ yes. absurd (false≢true (sym c.if-chooses.false ∙ c.chooses.ensures.value ∙ yes)))
