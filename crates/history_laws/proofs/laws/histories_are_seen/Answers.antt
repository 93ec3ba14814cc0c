use Rattle.history_laws.proofs.Seen.{histories_are_seen}
use Rattle.history_laws.proofs.laws.histories_are_seen.Goals as goal

pub returns : goal.returns
returns c = histories_are_seen
