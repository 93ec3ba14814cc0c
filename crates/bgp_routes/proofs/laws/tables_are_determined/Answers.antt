use Rattle.bgp_routes.proofs.Determined.{tables-determined}
use Rattle.bgp_routes.proofs.laws.tables_are_determined.Goals as goal

pub returns : goal.returns
returns c = tables-determined
