use Rattle.bgp_routes.proofs.Differing.{changed-differ}
use Rattle.bgp_routes.proofs.laws.changed_views_differ.Goals as goal

pub returns : goal.returns
returns c = changed-differ
