use Rattle.pool_config.proofs.Sets.{removes_take_out}
use Rattle.pool_config.proofs.laws.removes_take_out.Goals as goal

pub returns : goal.returns
returns c = removes_take_out
