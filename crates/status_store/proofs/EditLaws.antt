-- What an edit changes and what it leaves, from what it makes of the store.
use Rattle.std.proofs.Common.{◌≡◌, ◌↔◌, ◌+◌, Bool, true, false, cond, List, [], ◌∷◌, Option, Some, None, is_some, refl, ap, subst, ◌∙◌}
use Rattle.std.proofs.lemmas.Bool.{true≢false}
use Rattle.kube_model.specs.declared.object.Object.{Object}
use Rattle.kube_model.specs.declared.record.Record.{Record}
use Rattle.status_store.specs.declared.change.Edit.{Edit}
use Rattle.status_store.specs.declared.change.Edit.TheVariants.{Set, Reset, Delete}
use Rattle.status_store.specs.declared.stored.Stored.{Stored}
use Rattle.status_store.specs.Places.{Place, place_of}
use Rattle.status_store.specs.Objects.{IsAbsent, SameElsewhere, IsAscending, is_of, stored_at, with_stored, without_stored}
use Rattle.status_store.specs.Changes.{StoreValue, IsWellFormed, IsKeptRecord, SetsObject, OnSet, ResetsObject, OnReset, OnDelete}
use Rattle.status_store.specs.Changes.{DeletesNothing, edited_place, with_record, kept_record, set_as, reset_as, is_change, edited}
use Rattle.status_store.proofs.ChangeLaws.{place_of-with_record, stored_as}
use Rattle.status_store.proofs.StoredLaws.{stored-found, absent-found, found-absent, stored-with_stored}
use Rattle.status_store.proofs.StoredLaws.{elsewhere-with_stored, absent-without_stored, elsewhere-without_stored}

is_none_by : (found : Option Stored) → is_some found ≡ false → found ≡ None
is_none_by None e = refl
is_none_by (Some held) e = absurd (true≢false e)

-- nothing is left out where nothing is stored
left_by : (b : Bool) (place : Place) (first : Stored) (more : List Stored) → (stored_at more place ≡ None → without_stored place more ≡ more)
    → cond b (Some first) (stored_at more place) ≡ None → cond b more (first ∷ without_stored place more) ≡ first ∷ more
left_by true place first more ih e = absurd (cc)
left_by false place first more ih e = ap (λ (l : List Stored). first ∷ l) (ih e)

left-out : (objects : List Stored) (place : Place) → stored_at objects place ≡ None → without_stored place objects ≡ objects
left-out [] place e = refl
left-out (first ∷ more) place e = left_by (is_of place first) place first more (left-out more place) e

pub edit-absent : (edit : Edit) (s : StoreValue) → IsWellFormed s → (is_change edit s ≡ false) ↔ DeletesNothing edit s.objects
edit-absent (Set object) s kept = (λ e. true≢false e, λ none. absurd none)
edit-absent (Reset object) s kept = (λ e. true≢false e, λ none. absurd none)
edit-absent (Delete kind key) s kept = (
  λ e. found-absent s.objects (kind, key) kept.ascending (is_none_by (stored_at s.objects (kind, key)) e),
  λ absent. ap is_some (absent-found s.objects (kind, key) kept.ascending absent),
)

pub edit-unchanged : (edit : Edit) (s : StoreValue) → is_change edit s ≡ false → edited edit s ≡ s
edit-unchanged (Set object) s e = absurd (true≢false e)
edit-unchanged (Reset object) s e = absurd (true≢false e)
edit-unchanged (Delete kind key) s e =
    ap (λ (b : Bool). stored_as (without_stored (kind, key) s.objects) (cond b (s.counter + 1) s.counter)) e
    ∙ ap (λ (l : List Stored). stored_as l s.counter) (left-out s.objects (kind, key) (is_none_by (stored_at s.objects (kind, key)) e))

-- the record that stays is the stored one, or empty
kept_record-is : (objects : List Stored) (place : Place) → IsAscending objects → IsKeptRecord objects place (kept_record (stored_at objects place))
kept_record-is objects place s = record {
  stored = λ held stored. ap kept_record (stored-found objects place held s stored);
  absent = λ absent. ap kept_record (absent-found objects place s absent);
}

set-is : (object : Object) (s : StoreValue) → IsWellFormed s → SetsObject object s (edited (Set object) s)
set-is object s kept =
    let holding : Record = kept_record (stored_at s.objects (place_of object)) in
    let same : place_of (with_record holding object) ≡ place_of object = place_of-with_record holding object in
    let stored = stored-with_stored s.objects (set_as s object) in
    record {
      holding = holding;
      kept = kept_record-is s.objects (place_of object) kept.ascending;
      stored = (stored.0, same);
    }

pub edit-set : (edit : Edit) (s : StoreValue) → IsWellFormed s → OnSet edit (λ object. SetsObject object s (edited edit s))
edit-set (Set object) s kept = set-is object s kept
edit-set (Reset object) s kept = tt
edit-set (Delete kind key) s kept = tt

pub edit-reset : (edit : Edit) (s : StoreValue) → IsWellFormed s → OnReset edit (λ object. ResetsObject object s (edited edit s))
edit-reset (Set object) s kept = tt
edit-reset (Reset object) s kept = let stored = stored-with_stored s.objects (reset_as s object) in (stored.0, refl)
edit-reset (Delete kind key) s kept = tt

pub edit-deleted : (edit : Edit) (s : StoreValue) → IsWellFormed s → OnDelete edit (IsAbsent (edited edit s).objects)
edit-deleted (Set object) s kept = tt
edit-deleted (Reset object) s kept = tt
edit-deleted (Delete kind key) s kept = absent-without_stored s.objects (kind, key) kept.ascending

pub edit-others : (edit : Edit) (s : StoreValue) → IsWellFormed s → SameElsewhere (edited_place edit) s.objects (edited edit s).objects
edit-others (Set object) s kept =
    subst (λ (place : Place). SameElsewhere place s.objects (with_stored (set_as s object) s.objects))
    (place_of-with_record (kept_record (stored_at s.objects (place_of object))) object) (elsewhere-with_stored s.objects (set_as s object) kept.ascending)
edit-others (Reset object) s kept = elsewhere-with_stored s.objects (reset_as s object) kept.ascending
edit-others (Delete kind key) s kept = elsewhere-without_stored s.objects (kind, key) kept.ascending

pub edit-counter : (edit : Edit) (s : StoreValue) → (edited edit s).counter ≡ cond (is_change edit s) (s.counter + 1) s.counter
edit-counter (Set object) s = refl
edit-counter (Reset object) s = refl
edit-counter (Delete kind key) s = refl
