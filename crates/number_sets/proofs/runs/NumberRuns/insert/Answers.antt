use Rattle.std.proofs.Common.{vec_capacity, ap, arith}
use Rattle.std.proofs.Math.Nat.{min-le_left}
use Rattle.number_sets.specs.Runs.{RunsValue}
use Rattle.number_sets.proofs.CountLaws.{counted-kept, within-kept}
use Rattle.number_sets.proofs.RunLaws.{no_more}
use Rattle.number_sets.proofs.runs.NumberRuns.insert.Goals as goal

pub put-requires-clause-room : goal.put-requires-clause-room
put-requires-clause-room c =
    omega (
      arith,
      no_more 0 c.self.inside.runs.items c.self.invariant.apart,
      c.self.inside.runs.ok,
      ap (λ (s : RunsValue). s.room) c.self.view_is,
      min-le_left (vec_capacity c.self.inside.runs) (vec_capacity c.self.inside.before),
    )

pub recount-requires-clause-within : goal.recount-requires-clause-within
recount-requires-clause-within c =
    rw c.deref-then-put.ensures.value
    (within-kept c.self.inside.runs.items c.put.new.runs.items c.first_from-index.result c.put.ensures.kept
    (rw c.deref.ensures.value at c.first_from-index.ensures).within)

pub recount-requires-clause-counted : goal.recount-requires-clause-counted
recount-requires-clause-counted c =
    rw c.deref-then-put.ensures.value
    (counted-kept c.self.inside.runs.items c.put.new.runs.items c.self.inside.before.items c.first_from-index.result c.put.ensures.kept
    (rw c.deref.ensures.value at c.first_from-index.ensures).within c.self.invariant.ahead)

pub invariant_of-self-else-put : goal.invariant_of-self-else-put
invariant_of-self-else-put c = rw (c.put.ensures.same c.if-put.false, c.put.ensures.capacity) c.self.invariant
