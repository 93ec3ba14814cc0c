use Rattle.line_run.proofs.Texts.{err_then}
use Rattle.program_lines.specs.Lines.{note_text}
use Rattle.fenced_run.specs.Drive.{turns_from}
use Rattle.fenced_run.specs.Stepping.{driven_text, state_of}
use Rattle.fenced_run.proofs.line.go_on.Goals as goal

pub returns-clause-err : goal.returns-clause-err
returns-clause-err g c =
    err_then c.make_turns.result _ _ _ (note_text c.args.note.now) (driven_text (turns_from (state_of c.args.core.now c.args.fence.now))) _ _ _
    c.in_ok-write_note.ensures.ok c.write_note.ensures.later c.make_turns.ensures.err
