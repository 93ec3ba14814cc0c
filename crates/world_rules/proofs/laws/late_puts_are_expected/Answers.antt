use Rattle.world_rules.proofs.Worlds.{late_are_expected}
use Rattle.world_rules.proofs.laws.late_puts_are_expected.Goals as goal

pub returns : goal.returns
returns c = late_are_expected
