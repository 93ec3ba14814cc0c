use Rattle.line_run.proofs.Driven.{only_upto, upto_nothing}
use Rattle.line_run.proofs.run.run_lines.Goals as goal

pub returns-in_default-clause-only : goal.returns-in_default-clause-only
returns-in_default-clause-only g c =
    let before = g.K.Sink.written c.args.out.now in
    let start = g.S.PacedSource.left c.args.input.now in
    let rules = g.M.Machine.rules in
    let first = g.M.Machine.state c.args.machine.now in
    only_upto rules first start before before (upto_nothing rules first start before)
