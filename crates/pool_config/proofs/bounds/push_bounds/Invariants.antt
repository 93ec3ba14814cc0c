use Rattle.std.proofs.Common.{◌≡◌, ◌++◌, drop}
use Rattle.std.specs.List.{AllByRecursion}
use Rattle.ip_ranges.specs.Values.{IsRange}
use Rattle.pool_config.specs.Bounds.{lows_in, highs_in}
use Rattle.pool_config.proofs.bounds.push_bounds.Given as goal

abbrev pub invariant-loop-span : goal.invariant-loop-span
invariant-loop-span l = record {
  lows : l.lows.items ++ lows_in l.family (drop l.span-index l.spans) ≡ l.initial.lows.items ++ lows_in l.family l.spans;
  highs : l.highs.items ++ highs_in l.family (drop l.span-index l.spans) ≡ l.initial.highs.items ++ highs_in l.family l.spans;
  ranges : AllByRecursion IsRange (drop l.span-index l.spans) → AllByRecursion IsRange l.spans;
}
