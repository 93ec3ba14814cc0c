use Rattle.std.proofs.Common.{Option, map, subst}
use Rattle.pool_config.specs.ConfigValue.{Ascend, ConfigValue}
use Rattle.pool_config.specs.declared.compiled.CompiledPeer.{CompiledPeer}
use Rattle.bgp_routes.specs.Peers.{peers_in}
use Rattle.bgp_routes.proofs.PoolPlaces.{no-names}
use Rattle.bgp_routes.proofs.peers.peers_of.Goals as goal

pub returns-in-None-clause-names : goal.returns-in-None-clause-names
returns-in-None-clause-names c =
    subst (λ (config : Option ConfigValue). Ascend (map (λ (p : CompiledPeer). p.name) (peers_in config))) c.in-None.ensures.value no-names
