use Rattle.std.proofs.lemmas.Result.{err_from_is_err_and}
use Rattle.mlb_edge.proofs.mem_files.MemFiles.add.Goals as goal

pub returns-in_err-from_slice-clause-ok : goal.returns-in_err-from_slice-clause-ok
returns-in_err-from_slice-clause-ok c =
    let p = err_from_is_err_and c.from_residual.result c.from_residual.ensures.1 in
    rw p.1 tt

pub returns-in_err-from_slice-2-clause-ok : goal.returns-in_err-from_slice-2-clause-ok
returns-in_err-from_slice-2-clause-ok c =
    let p = err_from_is_err_and c.from_residual-in_err-from_slice-2.result c.from_residual-in_err-from_slice-2.ensures.1 in
    rw p.1 tt

pub returns-in_err-from_slice-3-clause-ok : goal.returns-in_err-from_slice-3-clause-ok
returns-in_err-from_slice-3-clause-ok c =
    let p = err_from_is_err_and c.from_residual-in_err-from_slice-3.result c.from_residual-in_err-from_slice-3.ensures.1 in
    rw p.1 tt

pub returns-in_err-insert-clause-ok : goal.returns-in_err-insert-clause-ok
returns-in_err-insert-clause-ok c =
    let p = err_from_is_err_and c.from_residual-in_err-insert.result c.from_residual-in_err-insert.ensures.1 in
    rw p.1 tt

pub returns-clause-err : goal.returns-clause-err
returns-clause-err c = tt
