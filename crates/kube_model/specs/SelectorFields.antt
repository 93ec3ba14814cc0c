-- The fields of selectors (Kubernetes, LabelSelector).
use Rattle.std.specs.Prelude.{Result, Ok, codes}
use Rattle.serde_json.specs.Data.{Data}
use Rattle.json_fields.specs.Path.{Path}
use Rattle.json_fields.specs.Reading.{◌>>=◌, list_at, labels_at, object_of}
use Rattle.json_fields.specs.Expressions.{expression_of}
use Rattle.kube_model.specs.declared.selector.SelectorText.{SelectorText}

unfoldable pub selector_of : Data → Result SelectorText Path
selector_of d = do
  members ← object_of d
  labels ← labels_at (codes "matchLabels") d
  expressions ← list_at expression_of (codes "matchExpressions") d
  Ok (record { labels = labels; expressions = expressions })
