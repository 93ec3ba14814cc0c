-- The fields of every kind, and those of several, in the order in which the first faulty one is named.
use Rattle.std.specs.Prelude.{ℕ, List, [], Result, Ok, unwrap_or, codes}
use Rattle.serde_json.specs.Data.{Data}
use Rattle.kube_labels.specs.Pairs.{value_of}
use Rattle.json_fields.specs.Path.{Path}
use Rattle.json_fields.specs.Reading.{◌>>=◌, name_at, required_at, list_at, labels_at, text_of}
use Rattle.kube_model.specs.declared.key.Key.{Key}
use Rattle.kube_model.specs.declared.object.Kind.{Kind}
use Rattle.kube_model.specs.declared.object.Kind.TheVariants as kinds
use Rattle.kube_model.specs.declared.selector.SelectorText.{SelectorText}
use Rattle.kube_model.specs.SelectorFields.{selector_of}
use Rattle.kube_events.specs.Named.{version_of}

-- labels or annotations
abbrev pub Pairs : Type 0
Pairs = List (List ℕ × List ℕ)

-- ---- of every kind

abbrev pub name_field : Data → Result (List ℕ) Path
name_field d = name_at (codes "metadata.name") d

-- The namespace matters for services and endpoint slices. Another kind has the empty one.
abbrev pub namespace_field : Kind → Data → Result (List ℕ) Path
namespace_field kinds.Service d = name_at (codes "metadata.namespace") d
namespace_field kinds.Slice d = name_at (codes "metadata.namespace") d
namespace_field kinds.Pool d = Ok []
namespace_field kinds.L2 d = Ok []
namespace_field kinds.Bgp d = Ok []
namespace_field kinds.Peer d = Ok []
namespace_field kinds.Community d = Ok []
namespace_field kinds.Namespace d = Ok []
namespace_field kinds.Node d = Ok []

abbrev pub version_field : Data → Result ℕ Path
version_field d = required_at version_of (codes "metadata.resourceVersion") d

abbrev pub labels_field : Data → Result Pairs Path
labels_field d = labels_at (codes "metadata.labels") d

unfoldable pub key_of : Kind → Data → Result Key Path
key_of kind d = do
  name ← name_field d
  namespace ← namespace_field kind d
  Ok (record { namespace = namespace; name = name })

-- ---- of several kinds

-- the pools that an advertisement names
abbrev pub pools_field : Data → Result (List (List ℕ)) Path
pools_field d = list_at text_of (codes "spec.ipAddressPools") d

abbrev pub pool_selectors_field : Data → Result (List SelectorText) Path
pool_selectors_field d = list_at selector_of (codes "spec.ipAddressPoolSelectors") d

abbrev pub node_selectors_field : Data → Result (List SelectorText) Path
node_selectors_field d = list_at selector_of (codes "spec.nodeSelectors") d

-- ---- one after the other

-- what both read, or the first fault
abbrev pub in_turn : {A B E : Type 0} → Result A E → Result B E → Result (A × B) E
in_turn first second = do
  a ← first
  b ← second
  Ok (a, b)

-- ---- labels and annotations

-- the value of a label or of an annotation, or the empty text
abbrev pub pair_value : List ℕ → Pairs → List ℕ
pair_value name pairs = unwrap_or (value_of name pairs) []
