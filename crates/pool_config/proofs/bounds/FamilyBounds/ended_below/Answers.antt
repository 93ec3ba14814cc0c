use Rattle.std.proofs.Common.{ℕ, nat_lt, ◌∙◌, ap, rules}
use Rattle.std.proofs.lemmas.List.Sorted.{IsPartitionPoint-from_clause, IsPartitionedBy-ltb}
use Rattle.std.specs.List.{count_by}
use Rattle.std.specs.List.Sorted.{IsNonDecreasing}
use Rattle.pool_config.proofs.Counts.{point_counts}
use Rattle.pool_config.proofs.bounds.FamilyBounds.ended_below.Goals as goal

pub returns : goal.returns
returns c =
    let test = λ (high : ℕ). nat_lt high c.args.number in
    let ascend : IsNonDecreasing c.deref.result.now = rw c.deref.ensures.value c.args.self.now.highs_ascend in
    let parted = IsPartitionedBy-ltb (λ high. high) c.deref.result.now c.args.number ascend in
    let point =
    IsPartitionPoint-from_clause test c.deref.result.now c.partition_point.result c.partition_point.ensures.partitioned parted (λ a r q k. search rules) in
    point_counts test c.deref.result.now c.partition_point.result c.partition_point.ensures.bound point ∙ ap (count_by test) c.deref.ensures.value
