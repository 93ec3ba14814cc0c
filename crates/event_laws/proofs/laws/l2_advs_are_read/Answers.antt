use Rattle.event_laws.proofs.L2Laws.{l2_advs_are_read}
use Rattle.event_laws.proofs.laws.l2_advs_are_read.Goals as goal

pub returns : goal.returns
returns c = l2_advs_are_read
