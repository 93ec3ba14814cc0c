use Rattle.bgp_updates.proofs.Families.{hops-told}
use Rattle.bgp_updates.proofs.laws.hops_are_of_routes.Goals as goal

pub returns : goal.returns
returns c = hops-told
