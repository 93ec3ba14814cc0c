use Rattle.bgp_updates.proofs.Sizes.{messages-fit}
use Rattle.bgp_updates.proofs.laws.messages_fit.Goals as goal

pub returns : goal.returns
returns c = messages-fit
