use Rattle.event_laws.proofs.PoolLaws.{pools_are_read}
use Rattle.event_laws.proofs.laws.pools_are_read.Goals as goal

pub returns : goal.returns
returns c = pools_are_read
