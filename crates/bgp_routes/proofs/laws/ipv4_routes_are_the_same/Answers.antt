use Rattle.bgp_routes.proofs.Families.{same-ipv4-routes}
use Rattle.bgp_routes.proofs.laws.ipv4_routes_are_the_same.Goals as goal

pub returns : goal.returns
returns c = same-ipv4-routes
