use Rattle.ctl_world.proofs.Refused.{stepped, stepped-kept, stepped-unmarked, not_enabled-is, limit-is, limited-is, refused-is, no_memory-is}
use Rattle.ctl_world.proofs.world.World.step.Goals as goal

pub invariant_of-self : goal.invariant_of-self
invariant_of-self c =
    stepped-kept c.self.inside.state c.step.new.self c.self.invariant.0 c.self.invariant.1
    (stepped c.self.inside.state c.step.new.self c.step.result c.args.step c.steps_terms.ensures c.step.ensures.passed c.step.ensures.ok c.step.ensures.err)

pub returns-clause-not_enabled : goal.returns-clause-not_enabled
returns-clause-not_enabled c =
    rw (← c.self.view_is) (not_enabled-is c.args.step c.self.inside.state c.step.new.self c.step.result c.step.ensures.passed c.step.ensures.err)

pub returns-clause-limit : goal.returns-clause-limit
returns-clause-limit c = rw (← c.self.view_is) (limit-is c.args.step c.self.inside.state c.step.new.self c.step.result c.step.ensures.err)

pub returns-clause-limited : goal.returns-clause-limited
returns-clause-limited c =
    rw (← c.self.view_is) (limited-is c.args.step c.self.inside.state c.step.new.self c.step.result c.step.ensures.passed c.step.ensures.err)

pub returns-clause-refused : goal.returns-clause-refused
returns-clause-refused c = rw (← c.self.view_is) (refused-is c.args.step c.self.inside.state c.step.new.self c.step.result c.step.ensures.err)

pub returns-clause-no_memory : goal.returns-clause-no_memory
returns-clause-no_memory c = rw (← c.self.view_is) (no_memory-is c.args.step c.self.inside.state c.step.new.self c.step.result c.step.ensures.err)

pub returns-clause-safe : goal.returns-clause-safe
returns-clause-safe c = (invariant_of-self c).0.stored.safe

pub returns-clause-unmarked : goal.returns-clause-unmarked
returns-clause-unmarked c =
    rw (← c.self.view_is)
    (stepped-unmarked c.self.inside.state c.step.new.self c.self.invariant.0 c.self.invariant.1
    (stepped c.self.inside.state c.step.new.self c.step.result c.args.step c.steps_terms.ensures c.step.ensures.passed c.step.ensures.ok c.step.ensures.err))
