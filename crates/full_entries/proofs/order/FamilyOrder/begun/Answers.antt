use Rattle.std.proofs.Common.{ℕ, nat_le, ◌∙◌, ap, rules}
use Rattle.std.proofs.lemmas.List.Sorted.{IsPartitionPoint-from_clause, IsPartitionedBy-leb}
use Rattle.std.specs.List.{count_by}
use Rattle.std.specs.List.Sorted.{IsNonDecreasing}
use Rattle.pool_config.proofs.Counts.{point_counts}
use Rattle.full_entries.proofs.order.FamilyOrder.begun.Goals as goal

pub returns : goal.returns
returns c =
    let test = λ (low : ℕ). nat_le low c.args.number in
    let ascend : IsNonDecreasing c.deref.result.now = rw c.deref.ensures.value c.args.self.now.ascend in
    let parted = IsPartitionedBy-leb (λ low. low) c.deref.result.now c.args.number ascend in
    let point =
    IsPartitionPoint-from_clause test c.deref.result.now c.partition_point.result c.partition_point.ensures.partitioned parted (λ a r q k. search rules) in
    point_counts test c.deref.result.now c.partition_point.result c.partition_point.ensures.bound point ∙ ap (count_by test) c.deref.ensures.value
