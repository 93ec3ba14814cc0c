use Rattle.lane_run.proofs.RanSo.{ran_unturned}
use Rattle.lane_run.proofs.running.run_lanes.Goals as goal

pub returns-clause-ran : goal.returns-clause-ran
returns-clause-ran g c =
    ran_unturned g.L.Lanes.belongs g.M.Reconciler.Drives g.M.Reconciler.Refuses _ _ _ _ _ _ _ _ c.run_turned.result c.run_turned.ensures.ran
