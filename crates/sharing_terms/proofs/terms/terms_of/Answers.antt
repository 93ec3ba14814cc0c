use Rattle.std.proofs.Common.{List, subst}
use Rattle.kube_model.specs.declared.port.Port.{Port}
use Rattle.sharing_terms.specs.Ports.{ArePortsOf}
use Rattle.sharing_terms.proofs.terms.terms_of.Goals as goal

pub returns-clause-ports : goal.returns-clause-ports
returns-clause-ports c = subst (λ (ports : List Port). ArePortsOf ports c.in_ok-of.field-0) c.as_slice.ensures c.in_ok-of.ensures.ports
