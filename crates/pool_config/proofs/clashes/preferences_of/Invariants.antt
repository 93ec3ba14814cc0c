use Rattle.std.proofs.Common.{◌≡◌, ◌++◌, drop, map}
use Rattle.std.specs.List.{AllByRecursion}
use Rattle.pool_config.specs.Preferences.{KnowsPool}
use Rattle.pool_config.proofs.clashes.preferences_of.Given as goal

abbrev pub invariant-loop-pool : goal.invariant-loop-pool
invariant-loop-pool l = record {
  pools : map (λ held. held.pool.now) l.known.items ++ drop l.pool-index l.pools ≡ l.pools;
  known : AllByRecursion (KnowsPool l.bgp) l.known.items;
}
