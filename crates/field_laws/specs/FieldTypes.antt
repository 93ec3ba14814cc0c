-- Types of fields, and rows of fields with what becomes of each where it is absent, as data.
use Rattle.std.specs.Prelude.{ℕ, List}
use Rattle.serde_json.specs.Data.{Data}
use Rattle.json_fields.specs.Path.{Path}

mutual
  pub data FieldType : Type 0 where
    any_text : FieldType
    full_text : FieldType
    true_or_false : FieldType
    whole_number : ℕ → ℕ → FieldType
    version_text : FieldType
    one_text : List (List ℕ) → FieldType
    two_texts : List (List ℕ) → FieldType
    address_text : FieldType
    hex_text : FieldType
    text_map : FieldType
    a_list : FieldType → FieldType
    an_object : Rows → FieldType

  pub data Row : Type 0 where
    required : Path → FieldType → Row
    optional : Path → FieldType → Row
    defaulted : Path → FieldType → Data → Row

  pub data Rows : Type 0 where
    no_rows : Rows
    ◌▸◌ : Row → Rows → Rows

infixr 20 ◌▸◌
