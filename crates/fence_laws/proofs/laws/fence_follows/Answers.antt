use Rattle.fence_laws.proofs.Taking.{fence_follows}
use Rattle.fence_laws.proofs.laws.fence_follows.Goals as goal

pub returns : goal.returns
returns c = fence_follows
