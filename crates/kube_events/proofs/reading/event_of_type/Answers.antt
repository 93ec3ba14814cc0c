use Rattle.std.proofs.Common.{refl}
use Rattle.std.proofs.lemmas.Result.{err_from_is_err_and}
use Rattle.kube_events.proofs.Events.{FailsEvent-in_field}
use Rattle.kube_events.proofs.reading.event_of_type.Goals as goal

pub returns-in_err-members_from-in-MEMBERS : goal.returns-in_err-members_from-in-MEMBERS
returns-in_err-members_from-in-MEMBERS c =
    let p = err_from_is_err_and c.from_residual.result c.from_residual.ensures.1 in
    rw (p.1, p.2, c.in-MEMBERS.is) (FailsEvent-in_field c.in_err-members_from-in-MEMBERS.field-0.0 _ c.in_err-members_from-in-MEMBERS.ensures)

pub returns-in_err-frame_from-in-FRAME : goal.returns-in_err-frame_from-in-FRAME
returns-in_err-frame_from-in-FRAME c =
    let p = err_from_is_err_and c.from_residual-in_err-frame_from-in-FRAME.result c.from_residual-in_err-frame_from-in-FRAME.ensures.1 in
    rw (p.1, p.2, c.in-FRAME.is) (FailsEvent-in_field c.in_err-frame_from-in-FRAME.field-0.0 _ c.in_err-frame_from-in-FRAME.ensures)

pub returns-in-DELETED : goal.returns-in-DELETED
returns-in-DELETED c = rw c.in-DELETED.is c.watched-in-DELETED.ensures

pub returns-in-BOOKMARK : goal.returns-in-BOOKMARK
returns-in-BOOKMARK c = rw c.in-BOOKMARK.is c.watched-in-BOOKMARK.ensures

pub returns-in-ERROR : goal.returns-in-ERROR
returns-in-ERROR c = rw c.in-ERROR.is refl

pub returns-in_ok-members_from-in-MEMBERS : goal.returns-in_ok-members_from-in-MEMBERS
returns-in_ok-members_from-in-MEMBERS c = rw (c.in-MEMBERS.is, c.in_ok-members_from-in-MEMBERS.ensures) refl

pub returns-in_ok-frame_from-in-FRAME : goal.returns-in_ok-frame_from-in-FRAME
returns-in_ok-frame_from-in-FRAME c = rw (c.in-FRAME.is, c.in_ok-frame_from-in-FRAME.ensures) refl
