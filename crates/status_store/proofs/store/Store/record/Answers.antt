use Rattle.std.proofs.Common.{◌+◌, true, get_or, refl, sym, subst, ◌∙◌}
use Rattle.status_store.specs.declared.stored.Stored.{Stored}
use Rattle.status_store.specs.Places.{Place}
use Rattle.status_store.specs.Objects.{IsAt}
use Rattle.status_store.specs.Changes.{StoreValue, recorded}
use Rattle.status_store.proofs.ChangeLaws.{version-same, stored_as, one-at, put-at, reply-at, kept-written, place_of-with_record}
use Rattle.status_store.proofs.store.Store.record.Goals as goal

pub invariant_of-self : goal.invariant_of-self
invariant_of-self c =
    let s : StoreValue = stored_as c.self.inside.objects c.self.inside.counter in
    let there = rw (← c.self.view_is) at c.requires.found in
    let first : Stored = one-at s.objects c.args.at there.in_range in
    let held : Stored = get_or s.objects c.args.at first in
    let place = place_of-with_record c.args.put.now.holding held.object ∙ there.there first in
    rw (c.record_at.ensures first, c.in_ok-holding.ensures)
    (kept-written s c.args.at (recorded (s.counter + 1) c.args.put.now.holding held) c.self.invariant
    (subst (λ (p : Place). IsAt s.objects p c.args.at) (sym place) there) refl)

pub returns-clause-reply : goal.returns-clause-reply
returns-clause-reply c =
    let s : StoreValue = stored_as c.self.inside.objects c.self.inside.counter in
    let there = rw (← c.self.view_is) at c.requires.found in
    let first : Stored = one-at s.objects c.args.at there.in_range in
    let current = rw (← c.self.view_is) at (c.requires.current first) in
    rw (← c.self.view_is)
    (sym (reply-at s c.args.put.now c.args.at first true c.self.invariant there (version-same _ _ current)))

pub returns-clause-store : goal.returns-clause-store
returns-clause-store c =
    let s : StoreValue = stored_as c.self.inside.objects c.self.inside.counter in
    let there = rw (← c.self.view_is) at c.requires.found in
    let first : Stored = one-at s.objects c.args.at there.in_range in
    let current = rw (← c.self.view_is) at (c.requires.current first) in
    rw (c.record_at.ensures first, c.in_ok-holding.ensures, ← c.self.view_is)
    (sym (put-at s c.args.put.now c.args.at first c.self.invariant there (version-same _ _ current)))
