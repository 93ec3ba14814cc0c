-- The operations of requests, by their texts.
use Rattle.std.specs.Prelude.{ℕ, List, Option, Some, None, Result, codes, if◌then◌else◌}
use Rattle.std.specs.Str.{bytes_eq}
use Rattle.serde_json.specs.Data.{Data}
use Rattle.json_fields.specs.Path.{Path}
use Rattle.json_fields.specs.Reading.{one_of}
use Rattle.admission_reviews.specs.declared.operation.Operation.{Operation}
use Rattle.admission_reviews.specs.declared.operation.Operation.TheVariants.{Create, Update, Delete, Connect}

abbrev pub operation_named : List ℕ → Option Operation
operation_named name = if bytes_eq name (codes "CREATE") then Some Create else
    if bytes_eq name (codes "UPDATE") then Some Update else
    if bytes_eq name (codes "DELETE") then Some Delete else
    if bytes_eq name (codes "CONNECT") then Some Connect else None

unfoldable pub operation_of : Data → Result Operation Path
operation_of d = one_of operation_named d
