use Rattle.fence_rules.proofs.Refused.{wrong_steps_are_refused}
use Rattle.fence_rules.proofs.laws.wrong_steps_are_refused.Goals as goal

pub returns : goal.returns
returns c = wrong_steps_are_refused
