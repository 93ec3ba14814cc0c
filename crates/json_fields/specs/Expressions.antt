-- The expressions of label selectors (Kubernetes, LabelSelectorRequirement).
use Rattle.std.specs.Prelude.{Result, Ok, codes}
use Rattle.serde_json.specs.Data.{Data}
use Rattle.kube_labels.specs.declared.expression.Expression.{Expression}
use Rattle.json_fields.specs.Path.{Path}
use Rattle.json_fields.specs.Reading.{◌>>=◌, required_at, list_at, object_of, text_of}

unfoldable pub expression_of : Data → Result Expression Path
expression_of d = do
  members ← object_of d
  key ← required_at text_of (codes "key") d
  operator ← required_at text_of (codes "operator") d
  values ← list_at text_of (codes "values") d
  Ok (record { key = key; operator = operator; values = values })
