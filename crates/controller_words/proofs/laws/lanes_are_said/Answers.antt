use Rattle.controller_words.proofs.SaidOptions.{lanes_are_said}
use Rattle.controller_words.proofs.laws.lanes_are_said.Goals as goal

pub returns : goal.returns
returns c = lanes_are_said
