use Rattle.world_rules.proofs.Outside.{seen_are_explained, seen_are_safe}
use Rattle.world_rules.proofs.laws.seen_are_explained.Goals as goal

pub returns-clause-explained : goal.returns-clause-explained
returns-clause-explained c = seen_are_explained

pub returns-clause-safe : goal.returns-clause-safe
returns-clause-safe c = seen_are_safe
