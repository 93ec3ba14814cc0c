-- Lists of stored objects: what stands in them at a place, and what they are with one object more or less.
use Rattle.std.specs.Prelude.{◌≡◌, ◌≢◌, ◌↔◌, ◌<◌, ◌≤◌, ℕ, Bool, List, [], ◌∷◌, Option, map, find, length, Contains, if◌then◌else◌}
use Rattle.std.specs.List.{AllByRecursion, AllWithin, HoldsAt}
use Rattle.std.specs.List.Sorted.{IsStrictlySortedBy}
use Rattle.std.specs.Ordering.{is_eq, match_ordering}
use Rattle.std.specs.declared.cmp.Ordering.TheVariants.{Less, Greater}
use Rattle.status_store.specs.declared.stored.Stored.{Stored}
use Rattle.status_store.specs.Places.{Place, place_of, place_cmp}

-- this is stored at the place
abbrev pub IsStored : List Stored → Place → Stored → Type 0
IsStored objects place held = Contains objects held × (place_of held.object ≡ place)

-- nothing is stored at the place
abbrev pub IsAbsent : List Stored → Place → Type 0
IsAbsent objects place = (held : Stored) → ¬ (IsStored objects place held)

-- at every other place the same is stored in the new list as in the old one
abbrev pub SameElsewhere : Place → List Stored → List Stored → Type 0
SameElsewhere place old new = (other : Place) → other ≢ place → (held : Stored) → IsStored new other held ↔ IsStored old other held

-- the places of the objects, in their order
abbrev pub places_of : List Stored → List Place
places_of objects = map (λ held. place_of held.object) objects

-- the objects stand by kind and then by key, and no two at one place
abbrev pub IsAscending : List Stored → Type 0
IsAscending objects = IsStrictlySortedBy place_cmp (places_of objects)

-- versions are from 1 to the counter
abbrev pub AreCounted : ℕ → List Stored → Type 0
AreCounted counter objects = AllByRecursion (λ held. (1 ≤ held.version) × (held.version ≤ counter)) objects

-- ---- the same as functions

-- whether it is the place of what is stored
abbrev pub is_of : Place → Stored → Bool
is_of place held = is_eq (place_cmp place (place_of held.object))

-- what is stored at the place
abbrev pub stored_at : List Stored → Place → Option Stored
stored_at objects place = find (is_of place) objects

-- the list with this where it belongs, in place of what was stored there
abbrev pub with_stored : Stored → List Stored → List Stored
with_stored added [] = added ∷ []
with_stored added (held ∷ more) =
    match_ordering (place_cmp (place_of added.object) (place_of held.object))
    (added ∷ held ∷ more) (added ∷ more) (held ∷ with_stored added more)

-- the list without what was stored at the place
abbrev pub without_stored : Place → List Stored → List Stored
without_stored place [] = []
without_stored place (held ∷ more) = if is_of place held then more else held ∷ without_stored place more

-- ---- what a search in the list finds

-- what stands here in the list is stored at the place
pub record IsAt (objects : List Stored) (place : Place) (at : ℕ) : Type 0 where
  pub in_range : at < length objects
  pub there : HoldsAt (λ held. place_of held.object ≡ place) objects at

-- nothing is stored at the place, and it would stand here
pub record IsGapFor (objects : List Stored) (place : Place) (at : ℕ) : Type 0 where
  pub in_range : at ≤ length objects
  pub below : AllWithin (λ held. place_cmp (place_of held.object) place ≡ Less) objects 0 at
  pub above : AllWithin (λ held. place_cmp (place_of held.object) place ≡ Greater) objects at (length objects)
