use Rattle.lane_drive.proofs.AsTheyAre.{asks_so, done_so, end_so, sent_so, writes_so}
use Rattle.lane_drive.proofs.files.run_lane_files.Goals as goal

pub run_turned_files-status-requires-clause-may : goal.run_turned_files-status-requires-clause-may
run_turned_files-status-requires-clause-may g c = λ _ _. record {
  live = λ i r o name more. c.requires.live i r o name
      (asks_so g.M.Lanes.belongs g.M.LaneMachine.rules (g.M.LaneMachine.state c.args.machine) _ _ _ _ more.2);
  waits = c.requires.waits;
  drops = c.requires.drops;
}

pub returns-clause-ended : goal.returns-clause-ended
returns-clause-ended g c =
    end_so g.M.Lanes.belongs g.M.LaneMachine.rules (g.M.LaneMachine.state c.args.machine) _ _ _ _ _ _ _ _ _ _ _ _ _ c.run_turned_files-status.ensures.ended

pub returns-clause-done : goal.returns-clause-done
returns-clause-done g c =
    done_so g.M.Lanes.belongs g.M.LaneMachine.rules (g.M.LaneMachine.state c.args.machine) _ _ _ _ _ _ _ c.run_turned_files-status.ensures.done

pub returns-clause-only : goal.returns-clause-only
returns-clause-only g c =
    writes_so g.M.Lanes.belongs g.M.LaneMachine.rules (g.M.LaneMachine.state c.args.machine) _ _ _ _ _ c.run_turned_files-status.ensures.only

pub returns-clause-complete : goal.returns-clause-complete
returns-clause-complete g c = λ ready.
    c.run_turned_files-status.ensures.complete (sent_so g.M.Lanes.belongs g.M.LaneMachine.rules (g.M.LaneMachine.state c.args.machine) _ _ _ ready)
