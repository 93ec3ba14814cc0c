use Rattle.std.proofs.Common.{[], inl, refl}
use Rattle.lane_run.specs.Outside.{lane_state}
use Rattle.lane_run.proofs.LaneSoFar.{ended_unread}
use Rattle.lane_run.proofs.watching.send_source.Goals as goal

pub returns-in_default-clause-ended : goal.returns-in_default-clause-ended
returns-in_default-clause-ended g c =
    let source = c.args.source.now in
    record {
      items = [];
      ended = ended_unread g.L.Lanes.belongs c.args.lane
          (lane_state (g.S.Source.left source) (g.S.Source.name source) (g.S.Source.faults source) (g.S.Source.unfailing source));
      state = _;
      turned = rw c.requires.fresh refl;
      left = inl refl;
    }
