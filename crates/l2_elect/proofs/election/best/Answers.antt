use Rattle.std.proofs.Common.{sym}
use Rattle.l2_elect.proofs.Unrecorded.{unannounced-none}
use Rattle.l2_elect.proofs.election.best.Goals as goal

pub returns-then-not-is_served-clause-node : goal.returns-then-not-is_served-clause-node
returns-then-not-is_served-clause-node c =
    sym (unannounced-none c.args.view.now c.args.address.now (λ node. c.is_served.ensures.nowhere node (sym (sym c.if-not-is_served.true))))
