use Rattle.std.proofs.Common.{◌≡◌, drop}
use Rattle.ctl_world.specs.Clashes.{partner}
use Rattle.ctl_world.proofs.clashes.partner.Given as goal

abbrev pub invariant-loop-other : goal.invariant-loop-other
invariant-loop-other l = partner l.service (drop l.other-index l.services) ≡ partner l.service l.services
