use Rattle.std.proofs.lemmas.Result.{err_from_is_err_and}
use Rattle.mlb_edge.proofs.line_reader.LineReader.take.Goals as goal

pub returns-in_err-bytes-clause-line : goal.returns-in_err-bytes-clause-line
returns-in_err-bytes-clause-line c =
    let p = err_from_is_err_and c.from_residual.result c.from_residual.ensures.1 in
    rw p.1 tt

pub returns-in_err-bytes-clause-ok : goal.returns-in_err-bytes-clause-ok
returns-in_err-bytes-clause-ok c =
    let p = err_from_is_err_and c.from_residual.result c.from_residual.ensures.1 in
    rw p.1 tt

pub returns-clause-err : goal.returns-clause-err
returns-clause-err c = tt
