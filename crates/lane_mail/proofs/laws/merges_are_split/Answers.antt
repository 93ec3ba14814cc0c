use Rattle.lane_mail.proofs.Merging.{split}
use Rattle.lane_mail.proofs.laws.merges_are_split.Goals as goal

pub returns : goal.returns
returns g c = split
