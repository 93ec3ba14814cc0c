use Rattle.std.proofs.Common.{refl}
use Rattle.std.proofs.lemmas.Result.{err_from_is_err_and}
use Rattle.mlb_edge.proofs.Counts.{counts_added, counts_memory, counts_opened}
use Rattle.mlb_edge.proofs.real_files.RealFilesFiles.open.Goals as goal

pub returns-in_ok-push-in-Err-clause-faults : goal.returns-in_ok-push-in-Err-clause-faults
returns-in_ok-push-in-Err-clause-faults g c =
    counts_added c.args.name.now _ c.args.self.now.failed_opens.items c.push.new.self.items refl
    (rw (c.in_ok-push-in-Err.ensures.items, c.in_ok-kept.ensures, c.as_bytes.ensures.value) refl)

pub returns-in_err-kept-clause-opened : goal.returns-in_err-kept-clause-opened
returns-in_err-kept-clause-opened g c =
    let p = err_from_is_err_and c.from_residual.result c.from_residual.ensures.1 in
    rw p.1 tt

pub returns-in_err-push-in-Err-clause-opened : goal.returns-in_err-push-in-Err-clause-opened
returns-in_err-push-in-Err-clause-opened g c =
    let p = err_from_is_err_and c.from_residual-in_err-push-in-Err.result c.from_residual-in_err-push-in-Err.ensures.1 in
    rw p.1 tt

pub returns-in_err-kept-clause-faults : goal.returns-in_err-kept-clause-faults
returns-in_err-kept-clause-faults g c =
    let p = err_from_is_err_and c.from_residual.result c.from_residual.ensures.1 in
    rw (p.1, p.2) (counts_memory _ _)

pub returns-in-Ok-clause-faults : goal.returns-in-Ok-clause-faults
returns-in-Ok-clause-faults g c = counts_opened _ _ _
