use Rattle.pool_config.proofs.CommunitySets.{communities_are_read}
use Rattle.pool_config.proofs.laws.communities_are_read.Goals as goal

pub returns : goal.returns
returns c = communities_are_read
