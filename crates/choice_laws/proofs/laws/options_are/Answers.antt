use Rattle.choice_laws.proofs.Options.{options-are}
use Rattle.choice_laws.proofs.laws.options_are.Goals as goal

pub returns : goal.returns
returns c = options-are
