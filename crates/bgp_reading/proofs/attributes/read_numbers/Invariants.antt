use Rattle.std.proofs.Common.{◌≡◌, length}
use Rattle.std.specs.Ordering.{nat_cmp}
use Rattle.pool_config.specs.KeySets.{keys_with}
use Rattle.bgp_reading.specs.Places.{ascending_in, numbers_in}
use Rattle.bgp_reading.proofs.attributes.read_numbers.Given as goal

abbrev pub invariant-loop-rest : goal.invariant-loop-rest
invariant-loop-rest l = keys_with nat_cmp l.numbers.keys (numbers_in l.rest) ≡ ascending_in l.bytes

abbrev pub decreases-loop-rest : goal.decreases-loop-rest
decreases-loop-rest l = length l.rest
