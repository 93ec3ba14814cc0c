use Rattle.std.proofs.Common.{◌≡◌, ◌++◌}
use Rattle.sharing_terms.proofs.port_set.PortSet.collected.Given as goal

abbrev pub invariant-loop-port : goal.invariant-loop-port
invariant-loop-port l = l.ports ++ l.port-iterator ≡ l.initial.port-iterator
