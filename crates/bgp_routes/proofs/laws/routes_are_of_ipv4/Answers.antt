use Rattle.bgp_routes.proofs.Families.{routes-of-ipv4}
use Rattle.bgp_routes.proofs.laws.routes_are_of_ipv4.Goals as goal

pub returns : goal.returns
returns c = routes-of-ipv4
