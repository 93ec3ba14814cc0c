use Rattle.bgp_reading.proofs.Answered.{computed}
use Rattle.bgp_reading.proofs.laws.messages_are_computed.Goals as goal

pub returns : goal.returns
returns c = computed
