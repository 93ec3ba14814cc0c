use Rattle.std.proofs.Common.{◌≡◌, drop}
use Rattle.ctl_world.specs.Clashes.{first_pair}
use Rattle.ctl_world.proofs.clashes.first_pair.Given as goal

abbrev pub invariant-loop-service : goal.invariant-loop-service
invariant-loop-service l = first_pair (drop l.service-index l.services) l.services ≡ first_pair l.services l.services
