-- What lines tell of objects.
use Rattle.std.specs.Prelude.{◌≡◌, ◌⊎◌, ℕ, List, Some, Ok, codes}
use Rattle.serde_json.specs.Data.{Data}
use Rattle.serde_json.specs.Find.{get}
use Rattle.kube_model.specs.declared.event.Event.TheVariants.{Changed}
use Rattle.kube_model.specs.declared.object.Kind.{Kind}
use Rattle.kube_model.specs.declared.object.Object.{Object}
use Rattle.kube_model.specs.LineWords.{kind_text}
use Rattle.kube_events.specs.ObjectFields.{stated_object, changed_of, deleted_of}
use Rattle.event_laws.specs.ObjectLines.{Spells}
use Rattle.kube_events.specs.Event.{in_field, text_in, event_of_line}

-- The bytes spell a value of this type, with an object of this kind.
pub record Tells (line : List ℕ) (word : List ℕ) (kind : Kind) (d : Data) : Type 0 where
  pub value : Data
  pub spells : Spells line value
  pub of_type : text_in (codes "type") value ≡ Some word
  pub has_object : get (codes "object") value ≡ Some d
  pub of_kind : text_in (codes "kind") d ≡ Some (kind_text kind)

-- A line that says that an object is there is read as its object is, and refused for the same field.
abbrev pub SetLinesAreRead : Type 0
SetLinesAreRead = (line : List ℕ) (d : Data) (kind : Kind) → Tells line (codes "ADDED") kind d ⊎ Tells line (codes "MODIFIED") kind d
    → event_of_line line ≡ in_field (changed_of kind d)

-- A line that says that an object is gone is read by its key and version, and refused for the same field.
abbrev pub DeletedLinesAreRead : Type 0
DeletedLinesAreRead = (line : List ℕ) (d : Data) (kind : Kind) → Tells line (codes "DELETED") kind d → event_of_line line ≡ in_field (deleted_of kind d)

-- An object that a line sets is stated so without its version.
abbrev pub SetObjectsAreStated : Type 0
SetObjectsAreStated = (kind : Kind) (d : Data) (n : ℕ) (object : Object) → changed_of kind d ≡ Ok (Changed n object) → stated_object kind d ≡ Ok object
