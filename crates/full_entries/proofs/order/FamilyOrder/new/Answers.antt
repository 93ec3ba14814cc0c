use Rattle.std.proofs.lemmas.List.Sorted.{IsNonDecreasingBy-from_sort}
use Rattle.full_entries.proofs.order.FamilyOrder.new.Goals as goal

pub invariant_of-result : goal.invariant_of-result
invariant_of-result c = record { ascend = IsNonDecreasingBy-from_sort (λ low. low) _ c.sort_unstable.ensures.sorted }
