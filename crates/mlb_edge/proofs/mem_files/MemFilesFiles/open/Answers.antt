use Rattle.std.proofs.Common.{refl}
use Rattle.std.proofs.lemmas.Result.{err_from_is_err_and}
use Rattle.mlb_edge.proofs.Counts.{counts_added, counts_memory}
use Rattle.mlb_edge.proofs.mem_files.MemFilesFiles.open.Goals as goal

pub returns-clause-fails : goal.returns-clause-fails
returns-clause-fails c _ =
    rw (← c.self.view_is, ← c.saturating_add-call.ensures, ← c.as_bytes-2.ensures.value)
    (rw (← c.self.view_is) at c.in_default.ensures.none)

pub returns-clause-faults : goal.returns-clause-faults
returns-clause-faults c =
    counts_added c.args.name.now _ c.args.self.now.failed_opens c.push.new.self.items refl
    (rw (c.in_ok-push.ensures.items, ← c.self.view_is, c.in_ok-kept.ensures, c.as_bytes.ensures.value) refl)

pub returns-in_err-kept-clause-opened : goal.returns-in_err-kept-clause-opened
returns-in_err-kept-clause-opened c =
    let p = err_from_is_err_and c.from_residual.result c.from_residual.ensures.1 in
    rw p.1 tt

pub returns-in_err-kept-clause-there : goal.returns-in_err-kept-clause-there
returns-in_err-kept-clause-there c =
    let p = err_from_is_err_and c.from_residual.result c.from_residual.ensures.1 in
    rw p.1 tt

pub returns-in_err-kept-clause-passes : goal.returns-in_err-kept-clause-passes
returns-in_err-kept-clause-passes c =
    let p = err_from_is_err_and c.from_residual.result c.from_residual.ensures.1 in
    rw p.1 tt

pub returns-in_err-kept-clause-opens : goal.returns-in_err-kept-clause-opens
returns-in_err-kept-clause-opens c =
    let p = err_from_is_err_and c.from_residual.result c.from_residual.ensures.1 in
    rw (p.1, p.2) refl

pub returns-in_err-input-clause-opened : goal.returns-in_err-input-clause-opened
returns-in_err-input-clause-opened c =
    let p = err_from_is_err_and c.from_residual-in_err-input.result c.from_residual-in_err-input.ensures.1 in
    rw p.1 tt

pub returns-in_err-input-clause-there : goal.returns-in_err-input-clause-there
returns-in_err-input-clause-there c =
    let p = err_from_is_err_and c.from_residual-in_err-input.result c.from_residual-in_err-input.ensures.1 in
    rw p.1 tt

pub returns-in_err-input-clause-passes : goal.returns-in_err-input-clause-passes
returns-in_err-input-clause-passes c =
    let p = err_from_is_err_and c.from_residual-in_err-input.result c.from_residual-in_err-input.ensures.1 in
    rw p.1 tt

pub returns-in_err-input-clause-opens : goal.returns-in_err-input-clause-opens
returns-in_err-input-clause-opens c =
    let p = err_from_is_err_and c.from_residual-in_err-input.result c.from_residual-in_err-input.ensures.1 in
    rw (p.1, p.2) refl

pub returns-in_err-push-clause-opened : goal.returns-in_err-push-clause-opened
returns-in_err-push-clause-opened c =
    let p = err_from_is_err_and c.from_residual-in_err-push.result c.from_residual-in_err-push.ensures.1 in
    rw p.1 tt

pub returns-in_err-push-clause-there : goal.returns-in_err-push-clause-there
returns-in_err-push-clause-there c =
    let p = err_from_is_err_and c.from_residual-in_err-push.result c.from_residual-in_err-push.ensures.1 in
    rw p.1 tt

pub returns-in_err-push-clause-passes : goal.returns-in_err-push-clause-passes
returns-in_err-push-clause-passes c =
    let p = err_from_is_err_and c.from_residual-in_err-push.result c.from_residual-in_err-push.ensures.1 in
    rw p.1 tt

pub returns-clause-opened : goal.returns-clause-opened
returns-clause-opened c = tt

pub returns-clause-there : goal.returns-clause-there
returns-clause-there c = tt

pub returns-clause-passes : goal.returns-clause-passes
returns-clause-passes c = tt

pub returns-in_err-kept-clause-faults : goal.returns-in_err-kept-clause-faults
returns-in_err-kept-clause-faults c =
    let p = err_from_is_err_and c.from_residual.result c.from_residual.ensures.1 in
    rw (p.1, p.2) (counts_memory _ _)

pub returns-in_err-input-clause-faults : goal.returns-in_err-input-clause-faults
returns-in_err-input-clause-faults c =
    let p = err_from_is_err_and c.from_residual-in_err-input.result c.from_residual-in_err-input.ensures.1 in
    rw (p.1, p.2) (counts_memory _ _)
