use Rattle.std.proofs.Common.{refl}
use Rattle.std.proofs.lemmas.Result.{err_from_is_err_and}
use Rattle.kube_events.proofs.Events.{FailsEvent-in_field}
use Rattle.kube_events.proofs.reading.watched.Goals as goal

pub returns-in_default : goal.returns-in_default
returns-in_default c = rw (← c.in_default.ensures) refl

pub returns-in_default-text_in : goal.returns-in_default-text_in
returns-in_default-text_in c = rw (← c.in-Some.ensures, ← c.in_default-text_in.ensures) refl

pub returns-in_default-named : goal.returns-in_default-named
returns-in_default-named c = rw (← c.in-Some.ensures, ← c.in-Some-text_in.ensures, ← c.in_default-named.ensures) refl

pub returns-in_err-changed_from-in-Set : goal.returns-in_err-changed_from-in-Set
returns-in_err-changed_from-in-Set c =
    let p = err_from_is_err_and c.from_residual.result c.from_residual.ensures.1 in
    rw (p.1, p.2, ← c.in-Some.ensures, ← c.in-Some-text_in.ensures, ← c.in-Some-named.ensures, c.in-Set.is)
    (FailsEvent-in_field c.in_err-changed_from-in-Set.field-0.0 _ c.in_err-changed_from-in-Set.ensures)

pub returns-in_err-deleted_from-in-Deleted : goal.returns-in_err-deleted_from-in-Deleted
returns-in_err-deleted_from-in-Deleted c =
    let p = err_from_is_err_and c.from_residual-in_err-deleted_from-in-Deleted.result c.from_residual-in_err-deleted_from-in-Deleted.ensures.1 in
    rw (p.1, p.2, ← c.in-Some.ensures, ← c.in-Some-text_in.ensures, ← c.in-Some-named.ensures, c.in-Deleted.is)
    (FailsEvent-in_field c.in_err-deleted_from-in-Deleted.field-0.0 _ c.in_err-deleted_from-in-Deleted.ensures)

pub returns-in_ok-changed_from-in-Set : goal.returns-in_ok-changed_from-in-Set
returns-in_ok-changed_from-in-Set c =
    rw (
      ← c.in-Some.ensures,
      ← c.in-Some-text_in.ensures,
      ← c.in-Some-named.ensures,
      c.in-Set.is,
      c.in_ok-changed_from-in-Set.ensures,
    ) refl

pub returns-in_ok-deleted_from-in-Deleted : goal.returns-in_ok-deleted_from-in-Deleted
returns-in_ok-deleted_from-in-Deleted c =
    rw (
      ← c.in-Some.ensures,
      ← c.in-Some-text_in.ensures,
      ← c.in-Some-named.ensures,
      c.in-Deleted.is,
      c.in_ok-deleted_from-in-Deleted.ensures,
    ) refl

pub returns-in-Bookmark : goal.returns-in-Bookmark
returns-in-Bookmark c = rw (← c.in-Some.ensures, ← c.in-Some-text_in.ensures, ← c.in-Some-named.ensures, c.in-Bookmark.is, c.bookmark_from.ensures) refl
