use Rattle.world_rules.proofs.Places.{worlds_are_in_order}
use Rattle.world_rules.proofs.laws.worlds_are_in_order.Goals as goal

pub returns : goal.returns
returns c = worlds_are_in_order
