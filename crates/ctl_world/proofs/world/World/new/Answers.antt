use Rattle.world_rules.specs.World.{store_of}
use Rattle.status_store.specs.Changes.{empty_store}
use Rattle.world_rules.proofs.Own.{starts_are_own, stores_have_terms}
use Rattle.world_rules.proofs.Storing.{good-store_of}
use Rattle.ctl_world.proofs.Filled.{filled}
use Rattle.ctl_world.proofs.world.World.new.Goals as goal

pub invariant_of-result : goal.invariant_of-result
invariant_of-result c =
    rw (c.in_ok-state.ensures, c.in_ok-store.ensures)
    (starts_are_own c.args.class (store_of c.args.objects empty_store) (good-store_of c.args.objects)
    (stores_have_terms c.args.objects (rw c.as_slice.ensures at c.have_terms.ensures)).0)

pub returns-clause-stored : goal.returns-clause-stored
returns-clause-stored c = rw (c.in_ok-state.ensures, c.in_ok-store.ensures) (filled c.args.objects)

pub returns-clause-safe : goal.returns-clause-safe
returns-clause-safe c = (invariant_of-result c).0.stored.safe
