use Rattle.std.proofs.Common.{nat_le, rules}
use Rattle.std.proofs.lemmas.List.Sorted.{IsPartitionPoint-from_clause, IsPartitionedBy-leb}
use Rattle.std.specs.List.Sorted.{IsNonDecreasingBy}
use Rattle.pool_config.specs.declared.span_index.PlacedSpan.{PlacedSpan}
use Rattle.pool_config.proofs.span_index.FamilyIndex.begun.Goals as goal

pub returns-clause-parts : goal.returns-clause-parts
returns-clause-parts c =
    let ascend : IsNonDecreasingBy (λ (span : PlacedSpan). span.low) c.deref.result.now = rw c.deref.ensures.value c.args.self.now.ascend in
    let parted = IsPartitionedBy-leb (λ (span : PlacedSpan). span.low) c.deref.result.now c.args.number ascend in
    rw c.deref.ensures.value at (IsPartitionPoint-from_clause (λ (span : PlacedSpan). nat_le span.low c.args.number) c.deref.result.now c.partition_point.result
    c.partition_point.ensures.partitioned parted (λ a r q k. search rules))
