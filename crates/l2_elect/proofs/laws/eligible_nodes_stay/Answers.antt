use Rattle.l2_elect.proofs.Unrecorded.{eligible_nodes_stay}
use Rattle.l2_elect.proofs.laws.eligible_nodes_stay.Goals as goal

pub returns : goal.returns
returns c = eligible_nodes_stay
