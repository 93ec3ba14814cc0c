use Rattle.fence_laws.proofs.Going.{fences_go_on, puts_go_on}
use Rattle.fence_laws.proofs.laws.fences_go_on.Goals as goal

pub returns : goal.returns
returns c = record { takes = fences_go_on; puts = puts_go_on }
