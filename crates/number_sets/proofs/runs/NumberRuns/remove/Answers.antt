use Rattle.number_sets.proofs.CountLaws.{counted-kept, within-kept}
use Rattle.number_sets.proofs.runs.NumberRuns.remove.Goals as goal

pub recount-requires-clause-within : goal.recount-requires-clause-within
recount-requires-clause-within c =
    rw c.deref-then-take.ensures.value
    (within-kept c.self.inside.runs.items c.take.new.runs.items c.first_from-index.result c.take.ensures.kept
    (rw c.deref.ensures.value at c.first_from-index.ensures).within)

pub recount-requires-clause-counted : goal.recount-requires-clause-counted
recount-requires-clause-counted c =
    rw c.deref-then-take.ensures.value
    (counted-kept c.self.inside.runs.items c.take.new.runs.items c.self.inside.before.items c.first_from-index.result c.take.ensures.kept
    (rw c.deref.ensures.value at c.first_from-index.ensures).within c.self.invariant.ahead)

pub invariant_of-self-else-take : goal.invariant_of-self-else-take
invariant_of-self-else-take c = rw (c.take.ensures.same c.if-take.false, c.take.ensures.capacity) c.self.invariant
