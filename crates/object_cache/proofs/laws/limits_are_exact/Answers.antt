use Rattle.object_cache.proofs.Limited.{limits_are_exact}
use Rattle.object_cache.proofs.laws.limits_are_exact.Goals as goal

pub returns : goal.returns
returns c = limits_are_exact
