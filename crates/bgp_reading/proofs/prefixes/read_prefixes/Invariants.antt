use Rattle.std.proofs.Common.{◌≡◌, ◌++◌, length, All}
use Rattle.bgp_updates.specs.Message.{Fits}
use Rattle.bgp_reading.specs.Places.{prefixes_in}
use Rattle.bgp_reading.proofs.prefixes.read_prefixes.Given as goal

abbrev pub invariant-loop-rest : goal.invariant-loop-rest
invariant-loop-rest l = (l.prefixes ++ prefixes_in l.family l.rest ≡ prefixes_in l.family l.bytes) × All Fits l.prefixes

abbrev pub decreases-loop-rest : goal.decreases-loop-rest
decreases-loop-rest l = length l.rest
