use Rattle.std.proofs.Common.{◌≡◌, Some, get_or, sym, ap, ◌∙◌}
use Rattle.status_store.specs.declared.stored.Stored.{Stored}
use Rattle.status_store.specs.Changes.{StoreValue}
use Rattle.status_store.proofs.ChangeLaws.{stored_as}
use Rattle.status_store.proofs.Searching.{stored_at-at, stored_at-gap}
use Rattle.status_store.proofs.StoredLaws.{found-absent}
use Rattle.status_store.proofs.store.Store.get.Goals as goal

pub returns-in-Ok-clause-value : goal.returns-in-Ok-clause-value
returns-in-Ok-clause-value c =
    let s : StoreValue = stored_as c.self.inside.objects c.self.inside.counter in
    let held : Stored = c.index-as_slice-at.result in
    let same : held ≡ get_or s.objects c.in-Ok.at held = rw c.as_slice.ensures at c.index-as_slice-at.is in
    let there = rw (c.as_str.ensures, c.as_str-2.ensures, ← c.self.view_is) at c.in-Ok.ensures.found in
    rw (← c.self.view_is) (ap Some same ∙ sym (stored_at-at s.objects (c.args.kind, c.args.key.now) c.in-Ok.at held c.self.invariant.ascending there))

-- nothing is stored there
pub returns-in-Err-clause-value : goal.returns-in-Err-clause-value
returns-in-Err-clause-value c =
    let gap = rw (c.as_str.ensures, c.as_str-2.ensures) at c.in-Err.ensures.absent in
    sym (stored_at-gap c.args.self.now.objects (c.args.kind, c.args.key.now) c.in-Err.field-0 gap)

pub returns-in-Err-clause-absent : goal.returns-in-Err-clause-absent
returns-in-Err-clause-absent c =
    found-absent c.args.self.now.objects (c.args.kind, c.args.key.now) c.in-Err.ensures.kept.ascending (sym (returns-in-Err-clause-value c))
