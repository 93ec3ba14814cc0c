use Rattle.bgp_routes.proofs.SameViews.{same-views}
use Rattle.bgp_routes.proofs.laws.same_views_keep_tables.Goals as goal

pub returns : goal.returns
returns c = same-views
