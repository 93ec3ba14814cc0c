use Rattle.world_rules.proofs.Themselves.{worlds_explain_themselves}
use Rattle.world_rules.proofs.laws.worlds_explain_themselves.Goals as goal

pub returns : goal.returns
returns c = worlds_explain_themselves
