use Rattle.std.proofs.lemmas.Result.{err_from_is_err_and}
use Rattle.line_run.proofs.Refusals.{broken}
use Rattle.speaker_machine.specs.Stream.{speaker_rules}
use Rattle.speaker_machine.proofs.Steps.{breaks}
use Rattle.speaker_machine.proofs.speaker.SpeakerMachine.take.Goals as goal

pub returns-in_err-written-clause-err : goal.returns-in_err-written-clause-err
returns-in_err-written-clause-err g c =
    let p = err_from_is_err_and c.from_residual-in_err-written.result c.from_residual-in_err-written.ensures.1 in
    rw (p.1, p.2)
    (broken c.in_err-written.field-0.0 speaker_rules c.args.self.now c.args.line _ _ _ _
    (breaks c.args.self.now.view c.args.self.now.local c.in_ok-event.event c.args.line _ c.in_err-written.field-0.0 c.in_ok-entries.entries
    _ _ _ _ c.in_ok-event.ensures.ok
    c.in_ok-entries.ensures.ok (rw c.as_slice.ensures at (rw c.in_err-written.was at c.write_entries-written.ensures.err))))
