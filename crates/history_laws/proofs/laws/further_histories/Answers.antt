use Rattle.history_laws.proofs.Further.{further_are_explained, further_are_seen}
use Rattle.history_laws.proofs.laws.further_histories.Goals as goal

pub returns-clause-explained : goal.returns-clause-explained
returns-clause-explained c = further_are_explained

pub returns-clause-seen : goal.returns-clause-seen
returns-clause-seen c = further_are_seen
