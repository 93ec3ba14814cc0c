use Rattle.std.proofs.Common.{◌+◌, refl, sym, ap}
use Rattle.status_store.specs.Changes.{StoreValue, reset_as}
use Rattle.status_store.proofs.ChangeLaws.{stored_as, reset-gap, kept-inserted}
use Rattle.status_store.proofs.store.Store.insert_whole.Goals as goal

pub invariant_of-self-2 : goal.invariant_of-self-2
invariant_of-self-2 c =
    let s : StoreValue = stored_as c.self.inside.objects c.self.inside.counter in
    let gap = rw (← c.self.view_is) at c.requires.absent in
    rw (c.in_ok-insert_at.ensures.ok) (kept-inserted s c.args.at (reset_as s c.args.object) c.self.invariant gap refl)

pub returns-clause-store : goal.returns-clause-store
returns-clause-store c =
    let gap = rw (← c.self.view_is) at c.requires.absent in
    let s : StoreValue = stored_as c.self.inside.objects c.self.inside.counter in
    rw (c.in_ok-insert_at.ensures.ok, ← c.self.view_is)
    (ap (λ l. stored_as l (c.self.inside.counter + 1)) (sym (reset-gap s c.args.object c.args.at gap)))
