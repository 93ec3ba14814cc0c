use Rattle.world_rules.proofs.Chains.{chains_are_safe}
use Rattle.world_rules.proofs.laws.chains_are_safe.Goals as goal

pub returns : goal.returns
returns c = chains_are_safe
