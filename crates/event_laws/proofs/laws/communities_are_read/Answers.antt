use Rattle.event_laws.proofs.CommunityLaws.{communities_are_read}
use Rattle.event_laws.proofs.laws.communities_are_read.Goals as goal

pub returns : goal.returns
returns c = communities_are_read
