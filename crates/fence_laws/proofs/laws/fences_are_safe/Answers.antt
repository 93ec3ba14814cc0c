use Rattle.fence_laws.proofs.Runs.{fences_are_safe}
use Rattle.fence_laws.proofs.laws.fences_are_safe.Goals as goal

pub returns : goal.returns
returns c = fences_are_safe
