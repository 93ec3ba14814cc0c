use Rattle.l2_elect.proofs.Moves.{election_moves_least}
use Rattle.l2_elect.proofs.laws.election_moves_least.Goals as goal

pub returns : goal.returns
returns c = election_moves_least
