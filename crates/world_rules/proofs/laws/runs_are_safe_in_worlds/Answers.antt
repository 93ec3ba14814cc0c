use Rattle.world_rules.proofs.Explaining.{runs_are_safe_in_worlds}
use Rattle.world_rules.proofs.laws.runs_are_safe_in_worlds.Goals as goal

pub returns : goal.returns
returns c = runs_are_safe_in_worlds
