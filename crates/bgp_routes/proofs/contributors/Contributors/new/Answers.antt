use Rattle.bgp_routes.proofs.Standing.{none-stands}
use Rattle.bgp_routes.proofs.contributors.Contributors.new.Goals as goal

pub returns : goal.returns
returns c = none-stands c.new.result c.new.ensures
