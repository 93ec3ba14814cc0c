use Rattle.core_laws.proofs.Sound.{runs_are_sound}
use Rattle.core_laws.proofs.laws.runs_are_sound.Goals as goal

pub returns : goal.returns
returns c = runs_are_sound
