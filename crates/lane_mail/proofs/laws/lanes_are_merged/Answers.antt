use Rattle.lane_mail.proofs.Merging.{merged}
use Rattle.lane_mail.proofs.laws.lanes_are_merged.Goals as goal

pub returns : goal.returns
returns g c = merged
