use Rattle.std.proofs.Common.{◌≡◌, ◌++◌, drop, map}
use Rattle.bgp_routes.specs.KeptConfig.{choice_by}
use Rattle.bgp_routes.proofs.kept_config.choices_of.Given as goal

abbrev pub invariant-loop-pool : goal.invariant-loop-pool
invariant-loop-pool l = l.choices ++ map (choice_by l.labels l.bgp) (drop l.pool-index l.pools) ≡ map (choice_by l.labels l.bgp) l.pools
