use Rattle.std.proofs.Common.{rules}
use Rattle.std.proofs.lemmas.List.Sorted.{IsPartitionPoint-from_clause}
use Rattle.bgp_updates.proofs.Halves.{has-halves, is_below}
use Rattle.bgp_updates.proofs.finding.count_before.Goals as goal

-- the closure tells whether a route is below the prefix
pub returns : goal.returns
returns c =
    let table = c.args.table.now in
    IsPartitionPoint-from_clause (is_below c.args.prefix.now) table c.partition_point.result c.partition_point.ensures.partitioned
    (has-halves c.args.prefix.now table c.requires.1) (λ a r q k. search rules)
