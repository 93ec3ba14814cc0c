use Rattle.std.proofs.Common.{◌≡◌, drop, None}
use Rattle.bgp_reading.specs.Reading.{follow}
use Rattle.bgp_reading.proofs.prefixes.follow.Given as goal

abbrev pub invariant-loop-prefix : goal.invariant-loop-prefix
invariant-loop-prefix l = follow l.last (drop l.prefix-index l.prefixes) ≡ follow None l.prefixes
