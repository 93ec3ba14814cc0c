use Rattle.line_run.specs.Run.{text_of}
use Rattle.line_run.specs.Text.{line_of}
use Rattle.line_run.proofs.Texts.{Halts-first, ok_then, err_then}
use Rattle.kube_lines.specs.OutputLines.{took_text}
use Rattle.speaker_machine.specs.Lanes.{name_of}
use Rattle.speaker_machine.specs.Stream.{speaker_rules}
use Rattle.speaker_machine.proofs.lanes.write_item.Goals as goal

pub returns-in-Err-clause-err : goal.returns-in-Err-clause-err
returns-in-Err-clause-err g c =
    Halts-first c.in-Err.halt (line_of (took_text (name_of c.args.lane) c.args.number)) (text_of speaker_rules c.args.entries.now)
    _ _ _ _ (rw c.name_of-name.ensures at c.in-Err.ensures.err)

pub returns-clause-ok : goal.returns-clause-ok
returns-clause-ok g c =
    ok_then c.write_entries.result _ _ _ (line_of (took_text (name_of c.args.lane) c.args.number)) (text_of speaker_rules c.args.entries.now)
    (rw c.name_of-name.ensures at c.in_default.ensures.ok) c.write_entries.ensures.ok

pub returns-clause-err : goal.returns-clause-err
returns-clause-err g c =
    err_then c.write_entries.result _ _ _ (line_of (took_text (name_of c.args.lane) c.args.number)) (text_of speaker_rules c.args.entries.now)
    _ _ _ (rw c.name_of-name.ensures at c.in_default.ensures.ok) c.write_took.ensures.later c.write_entries.ensures.err
