-- What a new store has.
use Rattle.std.proofs.Common.{◌≡◌, ◌≢◌, ℕ, ◌+◌, Bool, true, false, List, [], ◌∷◌, Option, None, length}
use Rattle.std.proofs.Common.{Contains, ◌⊎◌, inl, inr, ⊎_elim, refl, sym, ap, subst, ◌∙◌, arith}
use Rattle.std.specs.List.{AllByRecursion}
use Rattle.std.specs.List.Sorted.{IsStrictlySortedBy}
use Rattle.std.proofs.lemmas.Bool.{true≢false}
use Rattle.mlb_base.proofs.Among.{contains-none, contains-first, contains-later}
use Rattle.kube_model.specs.declared.object.Object.{Object}
use Rattle.status_store.specs.declared.change.Edit.{Edit}
use Rattle.status_store.specs.declared.change.Edit.TheVariants.{Set, Reset}
use Rattle.status_store.specs.declared.stored.Stored.{Stored}
use Rattle.status_store.specs.Places.{Place, place_of}
use Rattle.status_store.specs.Objects.{IsStored, IsAbsent, is_of, stored_at}
use Rattle.status_store.specs.Changes.{StoreValue, IsWellFormed, with_record, kept_record, set_as, reset_as, edited_place, edited, empty_store}
use Rattle.status_store.proofs.ChangeLaws.{kept-with_stored, place_of-with_record}
use Rattle.status_store.proofs.EditLaws.{edit-others}
use Rattle.status_store.proofs.StoredLaws.{is_of-is, is_of-by, absent-found, stored-with_stored}
use Rattle.world_rules.specs.World.{store_of, records_store}
use Rattle.ctl_world.specs.Begun.{AreApart, first_stored, handed_in, AreStoredAs, HasOnly, IsFilled, IsFilledSo}

-- nothing is stored at the places of these objects
abbrev AreNew : List Object → StoreValue → Type 0
AreNew objects s = AllByRecursion (λ o. IsAbsent s.objects (place_of o)) objects

kept-empty : IsWellFormed empty_store
unfolding IsStrictlySortedBy
kept-empty = record { ascending = tt; counted = tt }

all-new : (objects : List Object) → AreNew objects empty_store
all-new [] = tt
all-new (object ∷ more) = (λ held stored. contains-none held stored.0, all-new more)

-- what is stored of the objects: there is one of them of its kind and key
abbrev IsOneOf : List Object → Stored → Type 0
IsOneOf objects held = (object : Object) × Contains objects object × (place_of held.object ≡ place_of object)

-- an edit that stores an object, as it is stored where nothing was
record Fills (edit : Object → Edit) (form : ℕ → Object → Stored) : Type 0 where
  place : (object : Object) → edited_place (edit object) ≡ place_of object
  counter : (s : StoreValue) (object : Object) → (edited (edit object) s).counter ≡ s.counter + 1
  kept : (s : StoreValue) (object : Object) → IsWellFormed s → IsWellFormed (edited (edit object) s)
  stored : (s : StoreValue) (object : Object) → IsWellFormed s → IsAbsent s.objects (place_of object)
      → IsStored (edited (edit object) s).objects (place_of object) (form (s.counter + 1) object)

module _ (edit : Object → Edit) (form : ℕ → Object → Stored) (fills : Fills edit form) where
  -- the store of the objects, each stored so after the other
  filled_by : List Object → StoreValue → StoreValue
  filled_by [] s = s
  filled_by (object ∷ more) s = filled_by more (edited (edit object) s)

  elsewhere : (object : Object) (place : Place) → place_of object ≢ place → place ≢ edited_place (edit object)
  elsewhere object place other = λ same. other (sym (fills.place object) ∙ sym same)

  others-same : (s : StoreValue) (object : Object) (place : Place) (held : Stored) → IsWellFormed s → place_of object ≢ place → IsStored s.objects place held
      → IsStored (edited (edit object) s).objects place held
  others-same s object place held kept other stored = (edit-others (edit object) s kept place (elsewhere object place other) held).1 stored

  others-absent : (s : StoreValue) (object : Object) (place : Place) → IsWellFormed s → place_of object ≢ place → IsAbsent s.objects place
      → IsAbsent (edited (edit object) s).objects place
  others-absent s object place kept other absent =
      λ held stored. absent held ((edit-others (edit object) s kept place (elsewhere object place other) held).0 stored)

  -- what is stored stays while others are stored
  stays : (objects : List Object) (s : StoreValue) (place : Place) (held : Stored) → IsWellFormed s → AllByRecursion (λ other. place_of other ≢ place) objects
      → IsStored s.objects place held → IsStored (filled_by objects s).objects place held
  unfolding filled_by
  stays [] s place held kept others stored = stored
  stays (object ∷ more) s place held kept others stored =
      stays more (edited (edit object) s) place held (fills.kept s object kept) others.1 (others-same s object place held kept others.0 stored)

  still-new : (objects : List Object) (s : StoreValue) (object : Object) → IsWellFormed s → AllByRecursion (λ other. place_of other ≢ place_of object) objects
      → AreNew objects s
      → AreNew objects (edited (edit object) s)
  still-new [] s object kept others new = tt
  still-new (next ∷ more) s object kept others new =
      (others-absent s object (place_of next) kept (λ same. others.0 (sym same)) new.0, still-new more s object kept others.1 new.1)

  first-stored : (objects : List Object) (s : StoreValue) → IsWellFormed s → AreApart objects → AreNew objects s
      → AreStoredAs form s.counter objects (filled_by objects s)
  unfolding filled_by
  first-stored [] s kept apart new = tt
  first-stored (object ∷ more) s kept apart new = (
    stays more (edited (edit object) s) (place_of object) _ (fills.kept s object kept) apart.0 (fills.stored s object kept new.0),
    subst (λ (n : ℕ). AreStoredAs form n more (filled_by more (edited (edit object) s))) (fills.counter s object)
        (first-stored more (edited (edit object) s) (fills.kept s object kept) apart.1 (still-new more s object kept apart.0 new.1)),
  )

  -- what is stored after an object was stored was stored before, or it is the object
  was-or-is : (b : Bool) (s : StoreValue) (object : Object) (held : Stored) → IsWellFormed s → b ≡ is_of (place_of object) held
      → Contains (edited (edit object) s).objects held
      → Contains s.objects held ⊎ (place_of held.object ≡ place_of object)
  was-or-is true s object held kept is there = inr (is_of-is (place_of object) held (sym is))
  was-or-is false s object held kept is there =
      let other : place_of object ≢ place_of held.object = λ same. true≢false (sym (is_of-by (place_of object) held (sym same)) ∙ sym is) in
      inl ((edit-others (edit object) s kept (place_of held.object) (elsewhere object (place_of held.object) other) held).0 (there, refl)).0

  only-these : (objects : List Object) (s : StoreValue) (held : Stored) → IsWellFormed s → Contains (filled_by objects s).objects held
      → Contains s.objects held ⊎ IsOneOf objects held
  unfolding filled_by
  only-these [] s held kept there = inl there
  only-these (object ∷ more) s held kept there =
      ⊎_elim
      (λ now. ⊎_elim (λ before. inl before) (λ same. inr (object, contains-first object more, same))
      (was-or-is (is_of (place_of object) held) s object held kept refl now))
      (λ later. inr (later.0, contains-later object more later.0 later.1, later.2))
      (only-these more (edited (edit object) s) held (fills.kept s object kept) there)

  counted : (objects : List Object) (s : StoreValue) → (filled_by objects s).counter ≡ s.counter + length objects
  unfolding filled_by
  counted [] s = omega arith
  counted (object ∷ more) s = let rest = counted more (edited (edit object) s) in let one = fills.counter s object in omega (arith, rest, one)

  has-only : (objects : List Object) → AreApart objects → HasOnly form objects (filled_by objects empty_store)
  has-only objects apart = record {
    stored = first-stored objects empty_store kept-empty apart (all-new objects);
    only = λ held there. ⊎_elim (λ before. absurd (contains-none held before)) (λ one. one) (only-these objects empty_store held kept-empty there);
    counter = let all : (filled_by objects empty_store).counter ≡ 0 + length objects = counted objects empty_store in omega (arith, all);
  }

-- ---- objects that are set

-- what is stored of an object that is set, where this was found
abbrev set_over : StoreValue → Object → Option Stored → Stored
set_over s object found = record { version = s.counter + 1; object = with_record (kept_record found) object }

set-new : (s : StoreValue) (object : Object) → IsWellFormed s → IsAbsent s.objects (place_of object)
    → IsStored (edited (Set object) s).objects (place_of object) (first_stored (s.counter + 1) object)
set-new s object kept absent =
    let none : stored_at s.objects (place_of object) ≡ None = absent-found s.objects (place_of object) kept.ascending absent in
    let added = stored-with_stored s.objects (set_as s object) in
    let as_first : set_as s object ≡ first_stored (s.counter + 1) object = ap (set_over s object) none in
    subst (λ (held : Stored). IsStored (edited (Set object) s).objects (place_of object) held) as_first (added.0, place_of-with_record _ object)

sets : Fills (λ object. Set object) first_stored
sets = record {
  place = λ object. refl;
  counter = λ s object. refl;
  kept = λ s object kept. kept-with_stored s (set_as s object) refl kept;
  stored = set-new;
}

store_of-is : (objects : List Object) (s : StoreValue) → filled_by (λ object. Set object) first_stored sets objects s ≡ store_of objects s
unfolding filled_by
store_of-is [] s = refl
store_of-is (object ∷ more) s = store_of-is more (edited (Set object) s)

pub filled : (objects : List Object) → AreApart objects → IsFilled objects (store_of objects empty_store)
filled objects apart =
    subst (λ (s : StoreValue). IsFilled objects s) (store_of-is objects empty_store) (has-only (λ object. Set object) first_stored sets objects apart)

-- ---- objects that are stored with their records

resets : Fills (λ object. Reset object) handed_in
resets = record {
  place = λ object. refl;
  counter = λ s object. refl;
  kept = λ s object kept. kept-with_stored s (reset_as s object) refl kept;
  stored = λ s object kept absent. stored-with_stored s.objects (reset_as s object);
}

records_store-is : (objects : List Object) (s : StoreValue) → filled_by (λ object. Reset object) handed_in resets objects s ≡ records_store objects s
unfolding filled_by
records_store-is [] s = refl
records_store-is (object ∷ more) s = records_store-is more (edited (Reset object) s)

pub filled-so : (objects : List Object) → AreApart objects → IsFilledSo objects (records_store objects empty_store)
filled-so objects apart =
    subst (λ (s : StoreValue). IsFilledSo objects s) (records_store-is objects empty_store) (has-only (λ object. Reset object) handed_in resets objects apart)
