use Rattle.event_laws.proofs.PeerLaws.{peers_are_read}
use Rattle.event_laws.proofs.laws.peers_are_read.Goals as goal

pub returns : goal.returns
returns c = peers_are_read
