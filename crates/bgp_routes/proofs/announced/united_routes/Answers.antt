use Rattle.std.proofs.Common.{All, rules, subst, sym}
use Rattle.bgp_updates.specs.Tables.{HasFew}
use Rattle.bgp_routes.proofs.Few.{routes-few}
use Rattle.bgp_routes.proofs.Placing.{with_each_flat}
use Rattle.bgp_routes.proofs.announced.united_routes.Goals as goal

pub returns-clause-value : goal.returns-clause-value
returns-clause-value c = search (rules, with_each_flat)

pub returns-clause-few : goal.returns-clause-few
returns-clause-few c =
    subst (All HasFew) (sym (returns-clause-value c))
    (routes-few c.args.view.now c.args.node.now c.args.peer.now c.args.both (λ config in_force. (c.config.ensures.known config in_force).communities))
