use Rattle.core_laws.proofs.Shared.{runs_are_shared}
use Rattle.core_laws.proofs.laws.runs_are_shared.Goals as goal

pub returns : goal.returns
returns c = runs_are_shared
