use Rattle.std.proofs.Common.{◌≡◌, List, Some, None, Err, ap, subst, ◌∙◌}
use Rattle.status_store.specs.declared.stored.Stored.{Stored}
use Rattle.status_store.specs.Changes.{StoreValue, empty_store}
use Rattle.status_store.specs.Objects.{IsAscending}
use Rattle.world_rules.specs.World.{records_store}
use Rattle.world_rules.proofs.Unmarked.{records_are_good}
use Rattle.ctl_world.specs.declared.starts.StartFault.{StartFault}
use Rattle.ctl_world.specs.declared.starts.StartFault.TheVariants as faults
use Rattle.ctl_world.specs.Clashes.{clash_in}
use Rattle.ctl_world.proofs.LeastClash.{safe-found, least-found}
use Rattle.ctl_world.proofs.starts.safe_store.Goals as goal

pub returns-in-Ok-clause-good : goal.returns-in-Ok-clause-good
returns-in-Ok-clause-good c =
    let store : StoreValue = records_store c.args.objects empty_store in
    let same : c.as_slice.result.now ≡ store.objects = c.as_slice.ensures ∙ c.list.ensures.objects ∙ ap (λ (s : StoreValue). s.objects) c.in_ok-store.ensures in
    records_are_good c.args.objects (safe-found store (subst (λ (stored : List Stored). clash_in stored ≡ None) same c.in-Ok.ensures.ok))

pub returns-in-Err-clause-refused : goal.returns-in-Err-clause-refused
returns-in-Err-clause-refused c = λ first second is.
    let store : StoreValue = records_store c.args.objects empty_store in
    let same : c.as_slice.result.now ≡ store.objects = c.as_slice.ensures ∙ c.list.ensures.objects ∙ ap (λ (s : StoreValue). s.objects) c.in_ok-store.ensures in
    let fault : c.in-Err.fault ≡ faults.Unsafe first second = cc in
    least-found store first second (subst (λ (s : StoreValue). IsAscending s.objects) c.in_ok-store.ensures c.list.ensures.ascending)
    (subst (λ (stored : List Stored). clash_in stored ≡ Some (first, second)) same
    (c.in-Err.ensures.refused first second (ap (λ (f : StartFault). Err f) fault)))
