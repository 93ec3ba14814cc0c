use Rattle.std.proofs.Common.{◌≡◌, length}
use Rattle.large_numbers.specs.Large.{large_cmp}
use Rattle.pool_config.specs.KeySets.{keys_with}
use Rattle.bgp_reading.specs.Places.{by_threes, larges_in, numbers_in}
use Rattle.bgp_reading.proofs.attributes.read_larges.Given as goal

abbrev pub invariant-loop-rest : goal.invariant-loop-rest
invariant-loop-rest l = keys_with large_cmp l.numbers.keys (by_threes (numbers_in l.rest)) ≡ larges_in l.bytes

abbrev pub decreases-loop-rest : goal.decreases-loop-rest
decreases-loop-rest l = length l.rest
