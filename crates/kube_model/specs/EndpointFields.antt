-- The fields of an endpoint, in the order in which the first faulty one is named.
use Rattle.std.specs.Prelude.{Bool, true, Option, Some, None, Result, Ok, codes}
use Rattle.serde_json.specs.Data.{Data}
use Rattle.json_fields.specs.Path.{Path}
use Rattle.json_fields.specs.Reading.{◌>>=◌, optional_at, object_of, text_of, bool_of}
use Rattle.kube_model.specs.declared.slice.Endpoint.{Endpoint}

-- Serving says it where it is there, else ready where that is there. Else an endpoint is usable.
abbrev pub usable_of : Option Bool → Option Bool → Bool
usable_of ready (Some serving) = serving
usable_of (Some ready) None = ready
usable_of None None = true

unfoldable pub endpoint_of : Data → Result Endpoint Path
endpoint_of d = do
  members ← object_of d
  node ← optional_at text_of (codes "nodeName") d
  ready ← optional_at bool_of (codes "conditions.ready") d
  serving ← optional_at bool_of (codes "conditions.serving") d
  Ok (record { node = node; usable = usable_of ready serving })
