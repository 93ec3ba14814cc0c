use Rattle.std.proofs.Common.{false, sym}
use Rattle.status_store.specs.Changes.{StoreValue}
use Rattle.status_store.proofs.ChangeLaws.{stored_as, version-other, put-stale, put-gap, reply-at, reply-gap}
use Rattle.status_store.proofs.store.Store.write.Goals as goal

-- nothing is stored there
pub returns-in_default-clause-reply : goal.returns-in_default-clause-reply
returns-in_default-clause-reply c =
    let gap = rw (c.as_str-namespace.ensures, c.as_str.ensures) at c.in_default.ensures.absent in
    sym (reply-gap c.args.self.now c.args.put.now _ gap)

pub returns-in_default-clause-store : goal.returns-in_default-clause-store
returns-in_default-clause-store c =
    let gap = rw (c.as_str-namespace.ensures, c.as_str.ensures) at c.in_default.ensures.absent in
    sym (put-gap c.args.self.now c.args.put.now _ gap)

-- another version is stored there
pub returns-then-as_slice-at-clause-reply : goal.returns-then-as_slice-at-clause-reply
returns-then-as_slice-at-clause-reply c =
    let s : StoreValue = stored_as c.self.inside.objects c.self.inside.counter in
    let there = rw (c.as_str-namespace.ensures, c.as_str.ensures, ← c.self.view_is) at c.in-Ok.ensures.found in
    let apart = rw c.as_slice.ensures at c.if-as_slice-at.true in
    rw (← c.self.view_is)
    (sym (reply-at s c.args.put.now c.in-Ok.at c.index-as_slice-at.result false c.self.invariant there (version-other _ _ apart)))

pub returns-then-as_slice-at-clause-store : goal.returns-then-as_slice-at-clause-store
returns-then-as_slice-at-clause-store c =
    let s : StoreValue = stored_as c.self.inside.objects c.self.inside.counter in
    let there = rw (c.as_str-namespace.ensures, c.as_str.ensures, ← c.self.view_is) at c.in-Ok.ensures.found in
    let apart = rw c.as_slice.ensures at c.if-as_slice-at.true in
    rw (← c.self.view_is)
    (sym (put-stale s c.args.put.now c.in-Ok.at c.index-as_slice-at.result c.self.invariant there (version-other _ _ apart)))
