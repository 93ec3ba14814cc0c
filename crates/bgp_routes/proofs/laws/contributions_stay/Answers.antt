use Rattle.bgp_routes.proofs.Stays.{contributions_stay}
use Rattle.bgp_routes.proofs.laws.contributions_stay.Goals as goal

pub returns : goal.returns
returns c = contributions_stay
