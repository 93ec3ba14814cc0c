-- The fields of communities beside their metadata.
use Rattle.std.specs.Prelude.{ℕ, List, Result, Ok, codes}
use Rattle.serde_json.specs.Data.{Data}
use Rattle.json_fields.specs.Path.{Path}
use Rattle.json_fields.specs.Reading.{◌>>=◌, required_at, list_at, object_of, text_of}
use Rattle.kube_events.specs.Fields.{Pairs}

-- a name and its value
unfoldable pub named_value_of : Data → Result (List ℕ × List ℕ) Path
named_value_of d = do
  members ← object_of d
  name ← required_at text_of (codes "name") d
  value ← required_at text_of (codes "value") d
  Ok (name, value)

abbrev pub named_values_field : Data → Result Pairs Path
named_values_field d = list_at named_value_of (codes "spec.communities") d
