use Rattle.event_laws.proofs.AskedLaws.{annotations_are_read}
use Rattle.event_laws.proofs.laws.annotations_are_read.Goals as goal

pub returns : goal.returns
returns c = annotations_are_read
