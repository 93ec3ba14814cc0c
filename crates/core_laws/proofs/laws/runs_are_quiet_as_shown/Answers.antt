use Rattle.core_laws.proofs.QuietShown.{runs_are_quiet_as_shown}
use Rattle.core_laws.proofs.laws.runs_are_quiet_as_shown.Goals as goal

pub returns : goal.returns
returns c = runs_are_quiet_as_shown
