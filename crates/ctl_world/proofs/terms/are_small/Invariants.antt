use Rattle.std.proofs.Common.{drop}
use Rattle.sharing_terms.specs.Marked.{AreSmall}
use Rattle.ctl_world.proofs.terms.are_small.Given as goal

-- where the ports left are small, all are
abbrev pub invariant-loop-port : goal.invariant-loop-port
invariant-loop-port l = AreSmall (drop l.port-index l.ports) → AreSmall l.ports
