-- A store that was just filled.
use Rattle.std.specs.Prelude.{◌≡◌, ◌≢◌, ◌+◌, ℕ, List, [], ◌∷◌, length, ⊤}
use Rattle.std.specs.List.{Contains, AllByRecursion}
use Rattle.kube_model.specs.declared.object.Object.{Object}
use Rattle.kube_model.specs.Records.{empty_record}
use Rattle.status_store.specs.declared.stored.Stored.{Stored}
use Rattle.status_store.specs.Places.{place_of}
use Rattle.status_store.specs.Objects.{IsStored}
use Rattle.status_store.specs.Changes.{StoreValue, with_record}

-- no two of the objects have one kind and key
abbrev pub AreApart : List Object → Type 0
AreApart [] = ⊤
AreApart (object ∷ more) = AllByRecursion (λ other. place_of other ≢ place_of object) more × AreApart more

-- the object as it is first stored, at this version: a service has an empty record
abbrev pub first_stored : ℕ → Object → Stored
first_stored version object = record { version = version; object = with_record empty_record object }

-- the object as it is handed in
abbrev pub handed_in : ℕ → Object → Stored
handed_in version object = record { version = version; object = object }

-- each object is stored so, at its place in the list, after so many others
abbrev pub AreStoredAs : (ℕ → Object → Stored) → ℕ → List Object → StoreValue → Type 0
AreStoredAs form before [] store = ⊤
AreStoredAs form before (object ∷ more) store = IsStored store.objects (place_of object) (form (before + 1) object) × AreStoredAs form (before + 1) more store

-- The store has the objects, stored so at the versions 1, 2 and so on in their order, and no others.
pub record HasOnly (form : ℕ → Object → Stored) (objects : List Object) (store : StoreValue) : Type 0 where
  pub stored : AreStoredAs form 0 objects store
  pub only : (held : Stored) → Contains store.objects held → (object : Object) × Contains objects object × (place_of held.object ≡ place_of object)
  pub counter : store.counter ≡ length objects

-- the services have empty records
abbrev pub IsFilled : List Object → StoreValue → Type 0
IsFilled objects store = HasOnly first_stored objects store

-- or those that they were handed in with
abbrev pub IsFilledSo : List Object → StoreValue → Type 0
IsFilledSo objects store = HasOnly handed_in objects store
