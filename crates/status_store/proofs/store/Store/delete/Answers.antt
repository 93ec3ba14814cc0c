use Rattle.std.proofs.Common.{sym}
use Rattle.status_store.proofs.ChangeLaws.{one-at, deleted-at, deleted-gap, is_there-at, is_there-gap, kept-removed}
use Rattle.status_store.proofs.store.Store.delete.Goals as goal

-- nothing is stored there
pub returns-in_default-clause-done : goal.returns-in_default-clause-done
returns-in_default-clause-done c =
    let gap = rw (c.as_str.ensures, c.as_str-2.ensures) at c.in_default.ensures.absent in
    sym (is_there-gap c.args.self.now (c.args.kind, c.args.key.now) _ gap)

pub returns-in_default-clause-store : goal.returns-in_default-clause-store
returns-in_default-clause-store c =
    let gap = rw (c.as_str.ensures, c.as_str-2.ensures) at c.in_default.ensures.absent in
    sym (deleted-gap c.args.self.now c.args.kind c.args.key.now _ gap)

-- the object that stands there is removed
pub invariant_of-self : goal.invariant_of-self
invariant_of-self c =
    let there = rw (c.as_str.ensures, c.as_str-2.ensures, ← c.self.view_is) at c.in-Ok.ensures.found in
    rw c.remove_at.ensures (kept-removed _ _ _ c.self.invariant there)

pub returns-clause-done : goal.returns-clause-done
returns-clause-done c =
    let there = rw (c.as_str.ensures, c.as_str-2.ensures) at c.in-Ok.ensures.found in
    sym (is_there-at c.args.self.now (c.args.kind, c.args.key.now) _ (one-at c.args.self.now.objects c.in-Ok.at there.in_range) c.in-Ok.ensures.kept there)

pub returns-clause-store : goal.returns-clause-store
returns-clause-store c =
    let there = rw (c.as_str.ensures, c.as_str-2.ensures, ← c.self.view_is) at c.in-Ok.ensures.found in
    rw (c.remove_at.ensures, ← c.self.view_is)
    (sym (deleted-at _ c.args.kind c.args.key.now c.in-Ok.at (one-at c.self.inside.objects c.in-Ok.at there.in_range) c.self.invariant there))
