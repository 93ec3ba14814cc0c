use Rattle.std.proofs.Common.{◌≡◌, Bool, false}
use Rattle.status_store.specs.Objects.{IsAbsent, SameElsewhere}
use Rattle.status_store.specs.Changes.{StoreValue, SetsObject, OnSet, ResetsObject, OnReset, OnDelete, edited_place}
use Rattle.status_store.proofs.EditLaws.{edit-absent, edit-unchanged, edit-set, edit-reset, edit-deleted, edit-others}
use Rattle.status_store.proofs.Results.{if_ok-same, on_ok-same, if_ok-both}
use Rattle.status_store.proofs.store.Store.edit.Goals as goal

pub returns-clause-absent : goal.returns-clause-absent
returns-clause-absent c =
    if_ok-same _ _ _ c.edit_exactly.ensures.done (edit-absent c.args.edit c.args.self.now c.edit_exactly.ensures.kept)

pub returns-clause-unchanged : goal.returns-clause-unchanged
returns-clause-unchanged c =
    if_ok-both _ _ _ _ (λ (done : Bool) (new : StoreValue). done ≡ false → new ≡ c.args.self.now) c.edit_exactly.ensures.done c.edit_exactly.ensures.store
    (edit-unchanged c.args.edit c.args.self.now)

pub returns-clause-set : goal.returns-clause-set
returns-clause-set c =
    on_ok-same _ _ _ (λ (new : StoreValue). OnSet c.args.edit (λ object. SetsObject object c.args.self.now new)) c.edit_exactly.ensures.store
    (edit-set c.args.edit c.args.self.now c.edit_exactly.ensures.kept)

pub returns-clause-reset : goal.returns-clause-reset
returns-clause-reset c =
    on_ok-same _ _ _ (λ (new : StoreValue). OnReset c.args.edit (λ object. ResetsObject object c.args.self.now new)) c.edit_exactly.ensures.store
    (edit-reset c.args.edit c.args.self.now c.edit_exactly.ensures.kept)

pub returns-clause-deleted : goal.returns-clause-deleted
returns-clause-deleted c =
    on_ok-same _ _ _ (λ (new : StoreValue). OnDelete c.args.edit (IsAbsent new.objects)) c.edit_exactly.ensures.store
    (edit-deleted c.args.edit c.args.self.now c.edit_exactly.ensures.kept)

pub returns-clause-others : goal.returns-clause-others
returns-clause-others c =
    on_ok-same _ _ _ (λ (new : StoreValue). SameElsewhere (edited_place c.args.edit) c.args.self.now.objects new.objects) c.edit_exactly.ensures.store
    (edit-others c.args.edit c.args.self.now c.edit_exactly.ensures.kept)
