use Rattle.std.proofs.Common.{length}
use Rattle.fenced_run.specs.Stepping.{state_of}
use Rattle.fenced_run.proofs.Turning.{Turning}
use Rattle.fenced_run.proofs.turns.make_turns.Given as goal

abbrev pub invariant-turns : goal.invariant-turns
invariant-turns g l = Turning (state_of l.fn.core l.fn.fence) (state_of l.core l.fence) (g.K.Sink.written l.fn.out) (g.K.Sink.written l.out)
    (g.K.Sink.faults l.fn.out) (g.K.Sink.faults l.out)

abbrev pub decreases-turns : goal.decreases-turns
decreases-turns g l = length l.core.queue
