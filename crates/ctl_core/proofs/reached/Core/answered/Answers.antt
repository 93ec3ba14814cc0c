use Rattle.ctl_core.proofs.Reaches.{reached-reply, reached-quiet}
use Rattle.ctl_core.proofs.reached.Core.answered.Goals as goal

pub invariant_of-self : goal.invariant_of-self
invariant_of-self c = reached-reply c.answered.result c.self.inside.state c.answered.new.self c.self.invariant c.args.reply
    (rw (← c.self.view_is) at c.requires) c.answered.ensures.ok c.answered.ensures.err

pub returns-clause-quiet : goal.returns-clause-quiet
returns-clause-quiet c = reached-quiet c.answered.new.self (invariant_of-self c)
