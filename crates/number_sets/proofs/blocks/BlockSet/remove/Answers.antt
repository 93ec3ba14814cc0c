use Rattle.number_sets.proofs.BlockLaws.{removed}
use Rattle.number_sets.proofs.blocks.BlockSet.remove.Goals as goal

pub invariant_of-self : goal.invariant_of-self
invariant_of-self c = removed c.args.number c.self.inside.numbers _ c.self.inside.closed _ c.remove.ensures.has c.reopen.ensures c.self.invariant

pub returns-clause-has : goal.returns-clause-has
returns-clause-has c = rw (← c.self.view_is) c.remove.ensures.has
