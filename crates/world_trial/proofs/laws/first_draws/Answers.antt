use Rattle.std.proofs.Common.{refl}
use Rattle.world_trial.specs.Draws.{drawn}
use Rattle.world_trial.proofs.laws.first_draws.Goals as goal

pub returns : goal.returns
unfolding drawn
returns c = refl
