use Rattle.settling_laws.proofs.Explained.{runs_settle_worlds}
use Rattle.settling_laws.proofs.laws.runs_settle_worlds.Goals as goal

pub returns : goal.returns
returns c = runs_settle_worlds
