use Rattle.std.proofs.lemmas.List.Sorted.{IsNonDecreasingBy-from_sort}
use Rattle.pool_config.proofs.bounds.FamilyBounds.new.Goals as goal

pub invariant_of-result : goal.invariant_of-result
invariant_of-result c = record {
  lows_ascend = IsNonDecreasingBy-from_sort (λ low. low) _ c.sort_unstable.ensures.sorted;
  highs_ascend = IsNonDecreasingBy-from_sort (λ high. high) _ c.sort_unstable-2.ensures.sorted;
}
