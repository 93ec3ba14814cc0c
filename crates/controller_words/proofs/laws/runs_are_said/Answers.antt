use Rattle.controller_words.proofs.SaidOptions.{runs_are_said}
use Rattle.controller_words.proofs.laws.runs_are_said.Goals as goal

pub returns : goal.returns
returns c = runs_are_said
