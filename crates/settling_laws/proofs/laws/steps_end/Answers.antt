use Rattle.settling_laws.proofs.Ends.{steps_end}
use Rattle.settling_laws.proofs.laws.steps_end.Goals as goal

pub returns : goal.returns
returns c = steps_end
