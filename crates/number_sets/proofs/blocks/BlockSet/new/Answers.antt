use Rattle.number_sets.proofs.BlockLaws.{none-closed}
use Rattle.number_sets.proofs.blocks.BlockSet.new.Goals as goal

pub invariant_of-result : goal.invariant_of-result
invariant_of-result c = none-closed c.new.result c.new-2.result c.new-2.ensures
