use Rattle.event_laws.proofs.AskedLaws.{fields_are_read}
use Rattle.event_laws.proofs.laws.fields_are_read.Goals as goal

pub returns : goal.returns
returns c = fields_are_read
