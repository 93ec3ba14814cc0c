use Rattle.ctl_core.proofs.Reaches.{reached-expired, reached-quiet}
use Rattle.ctl_core.proofs.reached.Core.take_expired.Goals as goal

pub invariant_of-self : goal.invariant_of-self
invariant_of-self c =
    reached-expired c.self.inside.state c.take_expired.new.self c.args.group c.self.invariant (rw (← c.self.view_is) at c.requires) c.take_expired.ensures

pub returns-clause-quiet : goal.returns-clause-quiet
returns-clause-quiet c = reached-quiet c.take_expired.new.self (invariant_of-self c)
