use Rattle.std.proofs.Common.{◌≡◌, drop}
use Rattle.pool_config.specs.Clashing.{first_clashing}
use Rattle.pool_config.proofs.clashes.first_clashing.Given as goal

abbrev pub invariant-loop-index : goal.invariant-loop-index
invariant-loop-index l = first_clashing l.known l.pools (drop l.index l.bgp) ≡ first_clashing l.known l.pools l.bgp
