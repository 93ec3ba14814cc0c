use Rattle.std.proofs.Common.{◌≡◌, ◌++◌, drop}
use Rattle.std.specs.List.{AllByRecursion}
use Rattle.ip_ranges.specs.Values.{IsRange}
use Rattle.pool_config.specs.Bounds.{lows_in, highs_in, all_spans}
use Rattle.pool_config.proofs.bounds.push_all_bounds.Given as goal

abbrev pub invariant-loop-pool : goal.invariant-loop-pool
invariant-loop-pool l = record {
  lows : l.lows.items ++ lows_in l.family (all_spans (drop l.pool-index l.pools)) ≡ l.initial.lows.items ++ lows_in l.family (all_spans l.pools);
  highs : l.highs.items ++ highs_in l.family (all_spans (drop l.pool-index l.pools)) ≡ l.initial.highs.items ++ highs_in l.family (all_spans l.pools);
  ranges : AllByRecursion IsRange (all_spans (drop l.pool-index l.pools)) → AllByRecursion IsRange (all_spans l.pools);
}
