use Rattle.controller_words.proofs.SaidOptions.{trials_are_said}
use Rattle.controller_words.proofs.laws.trials_are_said.Goals as goal

pub returns : goal.returns
returns c = trials_are_said
