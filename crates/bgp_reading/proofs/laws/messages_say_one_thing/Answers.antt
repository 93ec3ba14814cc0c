use Rattle.bgp_reading.proofs.ReceivedAgain.{one-thing}
use Rattle.bgp_reading.proofs.laws.messages_say_one_thing.Goals as goal

pub returns : goal.returns
returns c = one-thing
