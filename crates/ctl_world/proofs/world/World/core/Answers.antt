use Rattle.ctl_world.proofs.Refused.{good-quiet}
use Rattle.world_rules.proofs.Places.{worlds_are_in_order, own_ends_once}
use Rattle.ctl_world.proofs.world.World.core.Goals as goal

pub returns-clause-quiet : goal.returns-clause-quiet
returns-clause-quiet c = rw (← c.self.view_is) (good-quiet c.self.inside.state c.self.invariant.0)

pub returns-clause-order : goal.returns-clause-order
returns-clause-order c = rw (← c.self.view_is) (worlds_are_in_order c.self.inside.state c.self.invariant.0)

pub returns-clause-config_ends : goal.returns-clause-config_ends
returns-clause-config_ends c = rw (← c.self.view_is) (own_ends_once c.self.inside.state c.self.invariant.1)
