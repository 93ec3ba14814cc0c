use Rattle.event_laws.proofs.BareLaws.{nodes_are_read}
use Rattle.event_laws.proofs.laws.nodes_are_read.Goals as goal

pub returns : goal.returns
returns c = nodes_are_read
