use Rattle.ctl_core.proofs.Reaches.{reached-take, reached-quiet}
use Rattle.ctl_core.proofs.reached.Core.take.Goals as goal

pub invariant_of-self : goal.invariant_of-self
invariant_of-self c = reached-take c.take.result c.self.inside.state c.take.new.self c.self.invariant c.args.event (rw (← c.self.view_is) at c.requires)
    c.take.ensures.ok c.take.ensures.err

pub returns-clause-quiet : goal.returns-clause-quiet
returns-clause-quiet c = reached-quiet c.take.new.self (invariant_of-self c)
