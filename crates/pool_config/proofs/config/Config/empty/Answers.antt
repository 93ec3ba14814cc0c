use Rattle.std.proofs.Common.{refl}
use Rattle.std.specs.List.Sorted.{IsStrictlySortedBy}
use Rattle.pool_config.proofs.Few.{no-few}
use Rattle.pool_config.proofs.SpanPlaces.{none-are}
use Rattle.pool_config.proofs.config.Config.empty.Goals as goal

pub invariant_of-result : goal.invariant_of-result
unfolding IsStrictlySortedBy
invariant_of-result c =
    rw c.new.ensures (rw c.new-2.ensures (rw c.new-3.ensures (rw c.new-4.ensures (
      record { pools = tt; l2 = tt; bgp = tt; peers = tt; apart = λ i j a b earlier at there. elim at [ ]; communities = no-few _ refl },
      none-are c.empty.result c.empty.ensures.v4 c.empty.ensures.v6,
    ))))
