use Rattle.bgp_routes.proofs.Keeping.{cleared-none}
use Rattle.bgp_routes.proofs.kept.KeptRoutes.new.Goals as goal

pub returns-clause-none : goal.returns-clause-none
returns-clause-none c = cleared-none _ (record { held = c.nothing.ensures; contributors = c.new.ensures })
