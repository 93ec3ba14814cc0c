use Rattle.bgp_routes.proofs.Elements.{routes-unite}
use Rattle.bgp_routes.proofs.laws.routes_unite_contributions.Goals as goal

pub returns : goal.returns
returns c = routes-unite
