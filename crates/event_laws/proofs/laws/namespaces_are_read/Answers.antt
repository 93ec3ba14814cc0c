use Rattle.event_laws.proofs.BareLaws.{namespaces_are_read}
use Rattle.event_laws.proofs.laws.namespaces_are_read.Goals as goal

pub returns : goal.returns
returns c = namespaces_are_read
