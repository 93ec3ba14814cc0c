use Rattle.line_run.specs.Text.{line_of}
use Rattle.controller_run.specs.Output.{reason_line}
use Rattle.kube_lines.specs.OutputLines.{put_text}
use Rattle.line_run.proofs.Texts.{ok_then, err_then}
use Rattle.controller_run.proofs.output.write_turn.Goals as goal

pub returns-in_ok-write_reason-in-Wants-clause-ok : goal.returns-in_ok-write_reason-in-Wants-clause-ok
returns-in_ok-write_reason-in-Wants-clause-ok g c =
    rw c.in-Wants.is (ok_then c.write_put.result _ _ _ (reason_line c.in-Wants.put.key c.in-Wants.pending) (line_of (put_text c.in-Wants.put))
    c.in_ok-write_reason-in-Wants.ensures.ok c.write_put.ensures.ok)

pub returns-in_ok-write_reason-in-Wants-clause-err : goal.returns-in_ok-write_reason-in-Wants-clause-err
returns-in_ok-write_reason-in-Wants-clause-err g c =
    rw c.in-Wants.is (err_then c.write_put.result _ _ _ (reason_line c.in-Wants.put.key c.in-Wants.pending) (line_of (put_text c.in-Wants.put))
    _ _ _ c.in_ok-write_reason-in-Wants.ensures.ok c.write_reason-in-Wants.ensures.later c.write_put.ensures.err)
