use Rattle.lane_drive.proofs.ReadItems.{items_are_read}
use Rattle.lane_drive.proofs.laws.items_are_read.Goals as goal

pub returns : goal.returns
returns g c = items_are_read g.L.Lanes.belongs
