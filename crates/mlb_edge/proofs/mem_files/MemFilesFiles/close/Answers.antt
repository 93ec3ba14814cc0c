use Rattle.std.proofs.Common.{rules, ◌<◌, refl, arith}
use Rattle.std.proofs.lemmas.Result.{err_from_is_err_and}
use Rattle.mlb_edge.proofs.Counts.{counts_added}
use Rattle.mlb_edge.proofs.mem_files.MemFilesFiles.close.Goals as goal

pub returns-clause-faults : goal.returns-clause-faults
returns-clause-faults c =
    let some : 0 < c.args.input.reads.faults = search rules in
    counts_added c.args.input.name _ c.args.self.now.failed_reads c.push.new.self.items (refl, λ none. omega arith)
    (rw (c.in_ok-push.ensures.items, ← c.self.view_is, ← c.input.view_is) refl)

pub returns-then-not-has_failed-clause-err : goal.returns-then-not-has_failed-clause-err
returns-then-not-has_failed-clause-err c = tt

pub returns-then-not-has_failed-clause-same : goal.returns-then-not-has_failed-clause-same
returns-then-not-has_failed-clause-same c = tt

pub returns-clause-err : goal.returns-clause-err
returns-clause-err c = tt

pub returns-clause-same : goal.returns-clause-same
returns-clause-same c = tt

pub returns-in_err-push-clause-ok : goal.returns-in_err-push-clause-ok
returns-in_err-push-clause-ok c =
    let p = err_from_is_err_and c.from_residual.result c.from_residual.ensures.1 in
    rw p.1 tt

pub returns-in_err-push-clause-after : goal.returns-in_err-push-clause-after
returns-in_err-push-clause-after c =
    let p = err_from_is_err_and c.from_residual.result c.from_residual.ensures.1 in
    rw p.1 tt
