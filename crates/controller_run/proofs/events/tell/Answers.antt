use Rattle.core_drive.specs.Drive.{turns_from}
use Rattle.line_run.proofs.Texts.{err_then}
use Rattle.controller_run.specs.Output.{output_of}
use Rattle.program_lines.specs.Lines.{note_text}
use Rattle.controller_run.proofs.events.tell.Goals as goal

pub returns-clause-err : goal.returns-clause-err
returns-clause-err g c =
    err_then c.make_turns.result _ _ _ (note_text c.args.note.now) (output_of (turns_from c.args.core.now).entries) _ _ _ c.in_ok-write_note.ensures.ok
    c.write_note.ensures.later c.make_turns.ensures.err
