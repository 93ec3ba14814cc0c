use Rattle.event_laws.proofs.ServiceLaws.{services_are_read}
use Rattle.event_laws.proofs.laws.services_are_read.Goals as goal

pub returns : goal.returns
returns c = services_are_read
