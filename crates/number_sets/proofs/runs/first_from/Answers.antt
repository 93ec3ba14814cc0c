use Rattle.std.proofs.Common.{rules, ltb}
use Rattle.std.proofs.lemmas.List.Sorted.{IsPartitionPoint-from_clause}
use Rattle.number_sets.specs.declared.runs.Run.{Run}
use Rattle.number_sets.proofs.RunLaws.{ends-parted, first-from}
use Rattle.number_sets.proofs.runs.first_from.Goals as goal

pub returns : goal.returns
returns c =
    let parted = ends-parted c.args.number c.args.runs.now c.requires in
    let point = IsPartitionPoint-from_clause (λ (r : Run). ltb r.last c.args.number) c.args.runs.now c.partition_point.result
    c.partition_point.ensures.partitioned parted (λ a r q k. search rules) in
    record {
      apart = c.requires;
      point = first-from c.args.number c.args.runs.now c.partition_point.result point;
      within = c.partition_point.ensures.bound;
    }
