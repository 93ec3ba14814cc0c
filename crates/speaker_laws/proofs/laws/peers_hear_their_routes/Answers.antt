use Rattle.speaker_laws.proofs.Heard.{peers_hear_their_routes}
use Rattle.speaker_laws.proofs.laws.peers_hear_their_routes.Goals as goal

pub returns : goal.returns
returns c = peers_hear_their_routes
