use Rattle.ctl_core.proofs.Reaches.{reached-turn, reached-quiet}
use Rattle.ctl_core.proofs.reached.Core.next_put.Goals as goal

pub invariant_of-self : goal.invariant_of-self
invariant_of-self c = reached-turn c.next_put.result c.self.inside.state c.next_put.new.self c.self.invariant (rw (← c.self.view_is) at c.requires)
    c.next_put.ensures.ok c.next_put.ensures.err

pub returns-clause-quiet : goal.returns-clause-quiet
returns-clause-quiet c = reached-quiet c.next_put.new.self (invariant_of-self c)
