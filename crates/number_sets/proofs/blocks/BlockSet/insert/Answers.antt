use Rattle.number_sets.proofs.BlockLaws.{added, unclosed}
use Rattle.number_sets.proofs.blocks.BlockSet.insert.Goals as goal

pub invariant_of-self : goal.invariant_of-self
invariant_of-self c = added c.args.number c.self.inside.numbers _ c.self.inside.closed _ c.insert.ensures.has c.close.ensures c.self.invariant

pub invariant_of-self-else-self : goal.invariant_of-self-else-self
invariant_of-self-else-self c =
    added c.args.number c.self.inside.numbers _ c.self.inside.closed c.self.inside.closed c.insert.ensures.has (unclosed c.args.number c.self.inside.closed)
    c.self.invariant

pub returns-then-self-clause-has : goal.returns-then-self-clause-has
returns-then-self-clause-has c = rw (← c.self.view_is) c.insert.ensures.has

pub returns-else-self-clause-has : goal.returns-else-self-clause-has
returns-else-self-clause-has c = rw (← c.self.view_is) c.insert.ensures.has
