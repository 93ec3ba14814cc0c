use Rattle.std.proofs.Common.{rules, ◌<◌, refl, arith}
use Rattle.std.proofs.lemmas.Result.{err_from_is_err_and}
use Rattle.mlb_edge.proofs.Counts.{counts_added}
use Rattle.mlb_edge.proofs.real_files.RealFilesFiles.close.Goals as goal

pub returns-clause-faults : goal.returns-clause-faults
returns-clause-faults g c =
    let some : 0 < c.args.input.counted.faults = search rules in
    counts_added c.args.input.name _ c.args.self.now.failed_reads.items c.push.new.self.items (refl, λ none. omega arith)
    (rw (c.in_ok-push.ensures.items, ← c.input.view_is) refl)

pub returns-then-not-has_failed-clause-err : goal.returns-then-not-has_failed-clause-err
returns-then-not-has_failed-clause-err g c = tt

pub returns-clause-err : goal.returns-clause-err
returns-clause-err g c = tt

pub returns-in_err-push-clause-ok : goal.returns-in_err-push-clause-ok
returns-in_err-push-clause-ok g c =
    let p = err_from_is_err_and c.from_residual.result c.from_residual.ensures.1 in
    rw p.1 tt
