use Rattle.core_rules.proofs.Runs.{core_holds_what_was_observed}
use Rattle.core_rules.proofs.laws.core_holds_what_was_observed.Goals as goal

pub returns : goal.returns
returns c = core_holds_what_was_observed
