-- The addresses that a service asks for.
use Rattle.std.specs.Prelude.{◌≡◌, ◌≢◌, ◌↔◌, ◌==◌, ℕ, List, [], ◌∷◌, map, Option, Some, None, Ok, IsErr}
use Rattle.std.specs.Result.{result_ok}
use Rattle.std.specs.List.{slice_split}
use Rattle.mlb_base.specs.Items.{Has}
use Rattle.ip_ranges.specs.Values.{AddressValue}
use Rattle.ip_ranges.specs.AddressText.{address_of}
use Rattle.ip_ranges.specs.EntryText.{trimmed}
use Rattle.kube_model.specs.declared.service.Wanted.TheVariants.{NotAsked, Unreadable, Asked}
use Rattle.kube_events.specs.Wanted.{wanted_of}

-- the parts of a text between its commas
abbrev pub parts_of : List ℕ → List (List ℕ)
parts_of text = slice_split (λ c. c == 44) text

-- the address that a part spells, blanks round it dropped, if it spells one
abbrev pub part_address : List ℕ → Option AddressValue
part_address part = result_ok (address_of (trimmed part))

-- An annotation asks for the addresses of its parts, one by one. It is unreadable exactly where one of them spells none.
pub record AnnotationIsRead (annotation field : List ℕ) : Type 0 where
  pub asked : (addresses : List AddressValue) → (wanted_of annotation field ≡ Asked addresses) ↔ (map part_address (parts_of annotation) ≡ map Some addresses)
  pub unreadable : (wanted_of annotation field ≡ Unreadable) ↔ Has (λ part. part_address part ≡ None) (parts_of annotation)

-- Without one the field asks for the one address that it spells, with no blanks dropped.
pub record FieldIsRead (field : List ℕ) : Type 0 where
  pub asked : (addresses : List AddressValue)
      → (wanted_of [] field ≡ Asked addresses) ↔ ((address : AddressValue) × (address_of field ≡ Ok address) × (addresses ≡ address ∷ []))
  pub unreadable : (wanted_of [] field ≡ Unreadable) ↔ IsErr (address_of field)

abbrev pub AnnotationsAreRead : Type 0
AnnotationsAreRead = (annotation field : List ℕ) → annotation ≢ [] → AnnotationIsRead annotation field

abbrev pub FieldsAreRead : Type 0
FieldsAreRead = (field : List ℕ) → field ≢ [] → FieldIsRead field

-- Nothing is asked for exactly where both are empty.
abbrev pub NothingIsAsked : Type 0
NothingIsAsked = (annotation field : List ℕ) → (wanted_of annotation field ≡ NotAsked) ↔ ((annotation ≡ []) × (field ≡ []))
