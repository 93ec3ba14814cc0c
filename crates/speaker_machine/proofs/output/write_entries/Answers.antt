use Rattle.std.proofs.Common.{◌+◌, drop}
use Rattle.line_run.specs.Run.{text_of}
use Rattle.line_run.proofs.Writing.{piece_written, piece_halts}
use Rattle.speaker_machine.specs.Transcript.{entry_text}
use Rattle.speaker_machine.specs.Stream.{speaker_rules}
use Rattle.speaker_machine.proofs.Steps.{next_is}
use Rattle.speaker_machine.proofs.output.write_entries.Goals as goal

pub returns-in-Err-clause-err : goal.returns-in-Err-clause-err
returns-in-Err-clause-err g c =
    let i = c.loop-entry.entry-index in
    let so_far = rw (next_is c.args.entries.now i c.entry-item.result c.loop-entry-test.true c.entry-item.is) at c.loop-entry.invariant in
    piece_halts (text_of speaker_rules c.args.entries.now) (entry_text c.entry-item.result) (text_of speaker_rules (drop (i + 1) c.args.entries.now))
    (g.K.Sink.written c.args.out.now) (g.K.Sink.written c.loop-entry.out) _ (g.K.Sink.faults c.args.out.now) (g.K.Sink.faults c.loop-entry.out) _ so_far
    c.in-Err.halt c.in-Err.ensures.err

pub loop-entry-preserved : goal.loop-entry-preserved
loop-entry-preserved g c =
    let i = c.loop-entry.entry-index in
    let so_far = rw (next_is c.args.entries.now i c.entry-item.result c.loop-entry-test.true c.entry-item.is) at c.loop-entry.invariant in
    piece_written (text_of speaker_rules c.args.entries.now) (entry_text c.entry-item.result) (text_of speaker_rules (drop (i + 1) c.args.entries.now))
    (g.K.Sink.written c.args.out.now) (g.K.Sink.written c.loop-entry.out) _ (g.K.Sink.faults c.args.out.now) (g.K.Sink.faults c.loop-entry.out) _ so_far
    c.in_default.ensures.ok c.write_entry.ensures.later
