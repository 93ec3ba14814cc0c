-- Rows one after the other: the first that is at fault is named, and where none is each has its value.
use Rattle.std.specs.Prelude.{◌≡◌, ◌↔◌, ◌⊎◌, Some, None, Ok, Err, ⊤}
use Rattle.serde_json.specs.Data.{Data}
use Rattle.json_fields.specs.Path.{Path}
use Rattle.field_laws.specs.FieldTypes.{Row, required, optional, defaulted, Rows, no_rows, ◌▸◌}
use Rattle.field_laws.specs.Told.{RowTold, RowsTold, told, rows_told}
use Rattle.field_laws.specs.FieldLaws.{IsAbsent, IsThere, IsFaulty}

-- The row has this value: that of what stands at its path, or where nothing does none, or its default's.
abbrev pub Has : (row : Row) → Data → RowTold row → Type 0
Has (required path type) d x = IsThere (told type) path d x
Has (optional path type) d None = IsAbsent path d
Has (optional path type) d (Some x) = IsThere (told type) path d x
Has (defaulted path type default) d x = IsAbsent path d × (told type default ≡ Ok x) ⊎ IsThere (told type) path d x

-- The row is at fault, under this path.
abbrev pub IsAtFault : Row → Data → Path → Type 0
IsAtFault (required path type) d at = IsAbsent path d × (path ≡ at) ⊎ IsFaulty (told type) path d at
IsAtFault (optional path type) d at = IsFaulty (told type) path d at
IsAtFault (defaulted path type default) d at = IsAbsent path d × (told type default ≡ Err at) ⊎ IsFaulty (told type) path d at

abbrev pub HaveAll : (rows : Rows) → Data → RowsTold rows → Type 0
HaveAll no_rows d told = ⊤
HaveAll (row ▸ rows) d told = Has row d told.0 × HaveAll rows d told.1

-- The first row at fault is under this path: those before it have values.
abbrev pub IsFirstAtFault : Rows → Data → Path → Type 0
IsFirstAtFault no_rows d at = ⊥
IsFirstAtFault (row ▸ rows) d at = IsAtFault row d at ⊎ ((x : RowTold row) × Has row d x × IsFirstAtFault rows d at)

pub record RowsAreTold (rows : Rows) (d : Data) : Type 0 where
  pub values : (values : RowsTold rows) → (rows_told rows d ≡ Ok values) ↔ HaveAll rows d values
  pub refused : (at : Path) → (rows_told rows d ≡ Err at) ↔ IsFirstAtFault rows d at
