use Rattle.std.proofs.Common.{drop}
use Rattle.line_run.specs.Run.{text_of}
use Rattle.line_run.proofs.Writing.{Writing}
use Rattle.speaker_machine.specs.Stream.{speaker_rules}
use Rattle.speaker_machine.proofs.output.write_entries.Given as goal

abbrev pub invariant-loop-entry : goal.invariant-loop-entry
invariant-loop-entry g l = Writing (text_of speaker_rules l.entries) (text_of speaker_rules (drop l.entry-index l.entries)) (g.K.Sink.written l.fn.out)
    (g.K.Sink.written l.out) (g.K.Sink.faults l.fn.out) (g.K.Sink.faults l.out)
