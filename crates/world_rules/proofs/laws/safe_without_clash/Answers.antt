use Rattle.world_rules.proofs.Clash.{safe_without_clash}
use Rattle.world_rules.proofs.laws.safe_without_clash.Goals as goal

pub returns : goal.returns
returns c = safe_without_clash
