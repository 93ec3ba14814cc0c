use Rattle.std.proofs.Common.{◌++◌}
use Rattle.std.specs.List.{flat_map}
use Rattle.line_run.specs.Text.{line_of}
use Rattle.line_run.proofs.Texts.{Halts-first, ok_then, err_then}
use Rattle.kube_lines.specs.OutputLines.{seen_text, took_text}
use Rattle.speaker_machine.specs.Lanes.{name_of}
use Rattle.speaker_run.specs.Responding.{sent_answer, shown_text}
use Rattle.speaker_run.proofs.shown.write_answered.Goals as goal

pub returns-in-Err-clause-err : goal.returns-in-Err-clause-err
returns-in-Err-clause-err g c =
    Halts-first c.in-Err.halt (line_of (took_text (name_of c.args.lane) c.args.number))
    (line_of (seen_text c.args.seen) ++ flat_map shown_text (sent_answer c.args.interface.now c.args.answer.now))
    _ _ _ _ (rw c.name_of-name.ensures at c.in-Err.ensures.err)

pub returns-clause-ok : goal.returns-clause-ok
returns-clause-ok g c =
    ok_then c.write_answer.result _ _ _ (line_of (took_text (name_of c.args.lane) c.args.number))
    (line_of (seen_text c.args.seen) ++ flat_map shown_text (sent_answer c.args.interface.now c.args.answer.now))
    (rw c.name_of-name.ensures at c.in_default.ensures.ok) c.write_answer.ensures.ok

pub returns-clause-err : goal.returns-clause-err
returns-clause-err g c =
    err_then c.write_answer.result _ _ _ (line_of (took_text (name_of c.args.lane) c.args.number))
    (line_of (seen_text c.args.seen) ++ flat_map shown_text (sent_answer c.args.interface.now c.args.answer.now))
    _ _ _ (rw c.name_of-name.ensures at c.in_default.ensures.ok) c.write_took.ensures.later c.write_answer.ensures.err
