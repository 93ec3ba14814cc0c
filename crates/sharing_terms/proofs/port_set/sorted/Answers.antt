use Rattle.sharing_terms.proofs.PortSets.{port_cmp-is, ports_with-next}
use Rattle.sharing_terms.proofs.port_set.sorted.Goals as goal

pub loop-port-preserved : goal.loop-port-preserved
loop-port-preserved c =
    ports_with-next c.loop-port.set.keys c.insert.new.self.keys c.args.ports.now _ c.loop-port.port-index _ c.loop-port-test.true
    (rw port_cmp-is at c.in_ok-insert.ensures.keys) c.loop-port.invariant
