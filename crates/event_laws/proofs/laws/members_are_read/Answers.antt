use Rattle.event_laws.proofs.OtherLaws.{members_are_read}
use Rattle.event_laws.proofs.laws.members_are_read.Goals as goal

pub returns : goal.returns
returns c = members_are_read
