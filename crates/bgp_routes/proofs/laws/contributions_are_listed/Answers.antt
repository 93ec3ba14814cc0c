use Rattle.bgp_routes.proofs.Listing.{contributions-listed}
use Rattle.bgp_routes.proofs.laws.contributions_are_listed.Goals as goal

pub returns : goal.returns
returns c = contributions-listed
