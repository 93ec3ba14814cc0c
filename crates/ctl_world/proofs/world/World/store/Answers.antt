use Rattle.ctl_world.proofs.world.World.store.Goals as goal

pub returns-clause-safe : goal.returns-clause-safe
returns-clause-safe c = rw (← c.self.view_is) c.self.invariant.0.stored.safe

pub returns-clause-kept : goal.returns-clause-kept
returns-clause-kept c = rw (← c.self.view_is) c.self.invariant.0.stored.kept
