-- The texts in a value.
use Rattle.std.specs.Prelude.{◌≡◌, ℕ, List, Some, Ok, ⊤}
use Rattle.std.specs.List.{AllByRecursion}
use Rattle.std.specs.Str.{IsUtf8}
use Rattle.kube_labels.specs.Pairs.{IsAscending}
use Rattle.serde_json.specs.Data.{Data, null, boolean, number, string, array, object, Items, no_items, item, Members, no_members, member}
use Rattle.json_values.specs.Line.{value_of_line}
use Rattle.json_fields.specs.Path.{Path}
use Rattle.json_fields.specs.Reading.{labels_at}

-- every string and every member name is UTF-8 (RFC 8259, section 8.1)
abbrev mutual
  pub HasTexts : Data → Type 0
  HasTexts null = ⊤
  HasTexts (boolean b) = ⊤
  HasTexts (number n) = ⊤
  HasTexts (string s) = IsUtf8 s
  HasTexts (array ds) = ItemsHaveTexts ds
  HasTexts (object ms) = MembersHaveTexts ms

  pub ItemsHaveTexts : Items → Type 0
  ItemsHaveTexts no_items = ⊤
  ItemsHaveTexts (item d ds) = HasTexts d × ItemsHaveTexts ds

  pub MembersHaveTexts : Members → Type 0
  MembersHaveTexts no_members = ⊤
  MembersHaveTexts (member name d ms) = IsUtf8 name × HasTexts d × MembersHaveTexts ms

-- pairs of texts, with ascending names
pub record AreLabels (pairs : List (List ℕ × List ℕ)) : Type 0 where
  pub ascending : IsAscending pairs
  pub texts : AllByRecursion (λ p. IsUtf8 p.0 × IsUtf8 p.1) pairs

-- The value of a line has texts alone.
abbrev pub ValuesHaveTexts : Type 0
ValuesHaveTexts = (line : List ℕ) (d : Data) → value_of_line line ≡ Some d → HasTexts d

-- What is read of a text map are labels.
abbrev pub TextMapsAreLabels : Type 0
TextMapsAreLabels = (path : Path) (d : Data) (pairs : List (List ℕ × List ℕ)) → HasTexts d → labels_at path d ≡ Ok pairs → AreLabels pairs
