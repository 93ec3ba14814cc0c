use Rattle.bgp_routes.proofs.FewKept.{few-in}
use Rattle.bgp_routes.proofs.kept_config.bgp_of.Goals as goal

pub returns-in-None-clause-few : goal.returns-in-None-clause-few
returns-in-None-clause-few c = few-in c.args.view.now.held.config (λ config in_force. (c.config.ensures.known config in_force).communities)

pub returns-in-Some-clause-few : goal.returns-in-Some-clause-few
returns-in-Some-clause-few c = few-in c.args.view.now.held.config (λ config in_force. (c.config.ensures.known config in_force).communities)
