use Rattle.std.proofs.Common.{◌≡◌, Option, subst}
use Rattle.pool_config.specs.ConfigValue.{ConfigValue}
use Rattle.pool_config.specs.PoolOf.{pool_with}
use Rattle.bgp_routes.specs.KeptConfig.{pool_at, pools_in}
use Rattle.bgp_routes.proofs.PoolPlaces.{found-pool}
use Rattle.bgp_routes.proofs.kept_config.pool_of.Goals as goal

pub returns-in-Some : goal.returns-in-Some
returns-in-Some c =
    subst (λ (config : Option ConfigValue). pool_at (pools_in config) c.pool_of.result ≡ pool_with (pools_in config) c.args.address.now) c.in-Some.ensures.value
    (found-pool c.in-Some.config.now.pools c.pool_of.ensures.config.apart c.args.address.now c.pool_of.result c.pool_of.ensures.value)
