use Rattle.bgp_updates.proofs.Parts.{parts-tell}
use Rattle.bgp_updates.proofs.laws.parts_tell_all.Goals as goal

pub returns : goal.returns
returns c = parts-tell
