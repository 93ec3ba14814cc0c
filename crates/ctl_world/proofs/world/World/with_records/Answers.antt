use Rattle.std.proofs.Common.{◌≡◌, Err, ap}
use Rattle.world_rules.specs.World.{records_store}
use Rattle.status_store.specs.Changes.{empty_store}
use Rattle.world_rules.proofs.Clash.{safe_without_clash}
use Rattle.world_rules.proofs.Own.{starts_are_own, stores_have_terms}
use Rattle.ctl_world.specs.declared.starts.StartFault.{StartFault}
use Rattle.ctl_world.specs.declared.starts.StartFault.TheVariants as faults
use Rattle.ctl_world.proofs.Filled.{filled-so}
use Rattle.ctl_world.proofs.world.World.with_records.Goals as goal

pub invariant_of-result : goal.invariant_of-result
invariant_of-result c =
    rw (c.in_ok-state.ensures, c.in-Ok.ensures.store)
    (starts_are_own c.args.class (records_store c.args.objects empty_store) c.in-Ok.ensures.good
    (stores_have_terms c.args.objects (rw c.as_slice.ensures at c.have_terms.ensures)).1)

pub returns-clause-stored : goal.returns-clause-stored
returns-clause-stored c = rw (c.in_ok-state.ensures, c.in-Ok.ensures.store) (filled-so c.args.objects)

pub returns-clause-accepted : goal.returns-clause-accepted
returns-clause-accepted c = (safe_without_clash (records_store c.args.objects empty_store)).0 c.in-Ok.ensures.good.safe

pub returns-clause-safe : goal.returns-clause-safe
returns-clause-safe c = (invariant_of-result c).0.stored.safe

pub returns-in-Err-clause-unsafe_pair : goal.returns-in-Err-clause-unsafe_pair
returns-in-Err-clause-unsafe_pair c = λ first second is.
    let fault : c.in-Err.fault ≡ faults.Unsafe first second = cc in
    c.in-Err.ensures.refused first second (ap (λ (f : StartFault). Err f) fault)
