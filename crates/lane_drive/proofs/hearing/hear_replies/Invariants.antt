use Rattle.std.proofs.Common.{◌≡◌, ◌-◌, ◌^◌, false}
use Rattle.lane_run.specs.Outside.{outside, source_state}
use Rattle.lane_drive.specs.Hearing.{HearsSome}
use Rattle.lane_drive.proofs.hearing.hear_replies.Given as goal

abbrev pub invariant-replies : goal.invariant-replies
invariant-replies g l = record {
  hears : HearsSome g.M.LaneMachine.rules (g.M.LaneMachine.state l.fn.replies.machine) (g.M.LaneMachine.state l.replies.machine)
      (outside l.fn.reader (source_state (g.I.PacedSource.left l.fn.input) (g.I.PacedSource.name l.fn.input) (g.I.PacedSource.faults l.fn.input))
      (g.K.Sink.written l.fn.out) (g.K.Sink.faults l.fn.out))
      (outside l.reader (source_state (g.I.PacedSource.left l.input) (g.I.PacedSource.name l.input) (g.I.PacedSource.faults l.input)) (g.K.Sink.written l.out)
      (g.K.Sink.faults l.out));
  name : g.I.PacedSource.name l.input ≡ g.I.PacedSource.name l.fn.input;
  still : g.M.LaneMachine.rules.waits (g.M.LaneMachine.state l.fn.replies.machine) ≡ false → l.replies ≡ l.fn.replies;
}

abbrev pub decreases-replies : goal.decreases-replies
decreases-replies g l = 2 ^ 40 - l.reader.passed
