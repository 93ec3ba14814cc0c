use Rattle.std.proofs.Common.{rules}
use Rattle.std.proofs.lemmas.List.Sorted.{IsPartitionPoint-from_clause}
use Rattle.bgp_updates.proofs.Families.{families-apart, is_first}
use Rattle.bgp_updates.proofs.finding.count_v4.Goals as goal

-- the closure tells whether a route is of IPv4
pub returns-clause-point : goal.returns-clause-point
returns-clause-point c =
    let table = c.args.table.now in
    IsPartitionPoint-from_clause is_first table c.partition_point.result c.partition_point.ensures.partitioned (families-apart table c.requires.1)
    (λ a r q k. search rules)
