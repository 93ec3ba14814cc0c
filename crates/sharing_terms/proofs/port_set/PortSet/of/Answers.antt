use Rattle.sharing_terms.proofs.PortSets.{collected-are}
use Rattle.sharing_terms.proofs.port_set.PortSet.of.Goals as goal

pub returns-clause-ports : goal.returns-clause-ports
returns-clause-ports c = collected-are c.args.ports.now c.collected.result c.collected.ensures
