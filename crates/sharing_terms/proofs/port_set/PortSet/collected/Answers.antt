use Rattle.sharing_terms.proofs.PortSets.{port_cmp-is, ascending-passed}
use Rattle.sharing_terms.proofs.port_set.PortSet.collected.Goals as goal

pub invariant_of-result : goal.invariant_of-result
invariant_of-result c =
    ascending-passed c.loop-port.ports c.loop-port.port-iterator _ c.in_ok-set.set.keys c.loop-port.invariant c.in-None.ensures.steps.0
    c.into_iter-port-iterator.ensures.into_iter_gives.0
    (rw port_cmp-is at c.into_iter-port-iterator.ensures.into_iter_gives.4)
