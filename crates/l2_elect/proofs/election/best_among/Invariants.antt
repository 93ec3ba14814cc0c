use Rattle.l2_elect.proofs.Best.{IsBest}
use Rattle.l2_elect.proofs.election.best_among.Given as goal

abbrev pub invariant-loop-node : goal.invariant-loop-node
invariant-loop-node l = IsBest l.view l.address l.text l.pool l.l2 l.fn.known l.nodes l.node-index l.best
