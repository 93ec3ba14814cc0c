use Rattle.std.proofs.Common.{rules, ◌-◌, ℕ, leb, List, ap, sym, subst, ◌∙◌}
use Rattle.std.proofs.lemmas.List.Sorted.{IsPartitionedBy-leb, IsPartitionPoint-from_clause}
use Rattle.number_sets.specs.declared.runs.Run.{Run}
use Rattle.number_sets.specs.Counts.{count_below}
use Rattle.number_sets.specs.RunLists.{AreRunsFrom}
use Rattle.number_sets.specs.Runs.{RunsValue, has}
use Rattle.number_sets.proofs.CountLaws.{beyond-ascends, beyond-point}
use Rattle.number_sets.proofs.runs.NumberRuns.runs_up_to.Goals as goal

-- the closure counts what is below the first number of a run
pub returns-clause-point : goal.returns-clause-point
returns-clause-point c =
    let a = has c.args.self.now in
    let b = has c.args.fewer.now in
    let beyond : Run → ℕ = λ r. count_below a r.first - count_below b r.first in
    let shown = c.deref.result.now in
    let apart = subst (λ (rs : List Run). AreRunsFrom 0 rs) (sym c.deref.ensures.value) c.self.invariant.apart in
    beyond-point a b c.requires c.args.self.now.runs shown c.args.most c.partition_point.result
    (c.deref.ensures.value ∙ ap (λ (s : RunsValue). s.runs) c.self.view_is)
    (IsPartitionPoint-from_clause (λ (r : Run). leb (beyond r) c.args.most) shown c.partition_point.result c.partition_point.ensures.partitioned
    (IsPartitionedBy-leb beyond shown c.args.most (beyond-ascends a b c.requires shown apart)) (λ a r q k. search rules))
