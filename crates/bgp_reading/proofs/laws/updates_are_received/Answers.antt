use Rattle.bgp_reading.proofs.ReceivedAgain.{updates-received}
use Rattle.bgp_reading.proofs.laws.updates_are_received.Goals as goal

pub returns : goal.returns
returns c = updates-received
