use Rattle.history_laws.proofs.Explained.{histories_are_explained}
use Rattle.history_laws.proofs.laws.histories_are_explained.Goals as goal

pub returns : goal.returns
returns c = histories_are_explained
