use Rattle.lane_run.proofs.Inputs.{stops_first}
use Rattle.lane_run.proofs.laws.lanes_stop_first.Goals as goal

pub returns : goal.returns
returns g c = stops_first g.L.Lanes.belongs
