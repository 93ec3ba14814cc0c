use Rattle.std.proofs.Common.{◌++◌}
use Rattle.std.proofs.lemmas.Result.{err_from_is_err_and}
use Rattle.core_drive.specs.Drive.{turns_from}
use Rattle.kube_lines.specs.OutputLines.{took_text}
use Rattle.line_run.proofs.Texts.{Halts-first, ok_then, err_then}
use Rattle.line_run.specs.Text.{line_of}
use Rattle.controller_run.specs.Lanes.{name_of}
use Rattle.controller_run.specs.Output.{output_of}
use Rattle.program_lines.specs.Lines.{note_text}
use Rattle.controller_run.proofs.lanes.tell_item.Goals as goal

pub returns-in_err-write_took-clause-err : goal.returns-in_err-write_took-clause-err
returns-in_err-write_took-clause-err g c =
    let p = err_from_is_err_and c.from_residual.result c.from_residual.ensures.1 in
    rw (p.1, p.2)
    (Halts-first c.in_err-write_took.field-0.0 (line_of (took_text (name_of c.args.lane) c.args.number))
    (note_text c.args.note.now ++ output_of (turns_from c.args.core.now).entries) _ _ _ _
    (rw c.name_of.ensures at c.in_err-write_took.ensures.err))

pub returns-clause-ok : goal.returns-clause-ok
returns-clause-ok g c =
    ok_then c.tell.result _ _ _ (line_of (took_text (name_of c.args.lane) c.args.number))
    (note_text c.args.note.now ++ output_of (turns_from c.args.core.now).entries)
    (rw c.name_of.ensures at c.in_ok-write_took.ensures.ok) c.tell.ensures.ok

pub returns-clause-err : goal.returns-clause-err
returns-clause-err g c =
    err_then c.tell.result _ _ _ (line_of (took_text (name_of c.args.lane) c.args.number))
    (note_text c.args.note.now ++ output_of (turns_from c.args.core.now).entries) _ _ _
    (rw c.name_of.ensures at c.in_ok-write_took.ensures.ok) c.write_took.ensures.later c.tell.ensures.err
