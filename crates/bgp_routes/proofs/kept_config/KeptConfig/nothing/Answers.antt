use Rattle.bgp_routes.proofs.FewKept.{few-nothing}
use Rattle.bgp_routes.proofs.PoolPlaces.{no-names}
use Rattle.bgp_routes.proofs.kept_config.KeptConfig.nothing.Goals as goal

pub invariant_of-result : goal.invariant_of-result
invariant_of-result c = rw (c.new.ensures, c.new-3.ensures) (few-nothing, no-names)
