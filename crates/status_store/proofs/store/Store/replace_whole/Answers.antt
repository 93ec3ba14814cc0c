use Rattle.std.proofs.Common.{◌+◌, List, refl, sym, ap}
use Rattle.status_store.specs.declared.stored.Stored.{Stored}
use Rattle.status_store.specs.Changes.{StoreValue, reset_as}
use Rattle.status_store.proofs.ChangeLaws.{stored_as, reset-at, kept-written}
use Rattle.status_store.proofs.store.Store.replace_whole.Goals as goal

pub invariant_of-self : goal.invariant_of-self
invariant_of-self c =
    let s : StoreValue = stored_as c.self.inside.objects c.self.inside.counter in
    let there = rw (← c.self.view_is) at c.requires.found in
    rw (c.write_at.ensures) (kept-written s c.args.at (reset_as s c.args.object) c.self.invariant there refl)

pub returns-clause-store : goal.returns-clause-store
returns-clause-store c =
    let s : StoreValue = stored_as c.self.inside.objects c.self.inside.counter in
    let there = rw (← c.self.view_is) at c.requires.found in
    rw (c.write_at.ensures, ← c.self.view_is)
    (ap (λ (l : List Stored). stored_as l (s.counter + 1)) (sym (reset-at s c.args.object c.args.at c.self.invariant there)))
