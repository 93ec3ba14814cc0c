-- What the lines that spell objects have in common, member by member.
use Rattle.std.specs.Prelude.{◌≡◌, ◌<◌, ◌&&◌, ℕ, List, [], ◌∷◌, Bool, true, map, Option, Some, None}
use Rattle.std.specs.Prelude.{is_none, option_map, unwrap_or, codes, length, if◌then◌else◌}
use Rattle.serde_json.specs.Data.{Data, string, number, unsigned, array, object, Members, member, no_members}
use Rattle.serde_json.specs.View.{items_of}
use Rattle.json_values.specs.Line.{value_of_line}
use Rattle.kube_labels.specs.Pairs.{with_pair}
use Rattle.kube_labels.specs.declared.expression.Expression.{Expression}
use Rattle.kube_model.specs.declared.selector.SelectorText.{SelectorText}
use Rattle.kube_events.specs.Named.{version_named}

-- ---- members

-- a member by its name, which is there or not
abbrev pub Field : Type 0
Field = List ℕ × Option Data

abbrev pub with_member : List ℕ → Option Data → Members → Members
with_member name None members = members
with_member name (Some d) members = member name d members

-- those that are there
abbrev pub members_there : List Field → Members
members_there [] = no_members
members_there (field ∷ fields) = with_member field.0 field.1 (members_there fields)

abbrev pub spelled : List Field → Data
spelled fields = object (members_there fields)

abbrev pub are_absent : List Field → Bool
are_absent [] = true
are_absent (field ∷ fields) = is_none field.1 && are_absent fields

-- an object of these members, which may be left out where none of them is there
abbrev pub parent : Bool → List Field → Option Data
parent left_out fields = if left_out && are_absent fields then None else Some (spelled fields)

-- ---- values

abbrev pub list_data : {A : Type 0} → (A → Data) → List A → Data
list_data spell items = array (items_of (map spell items))

abbrev pub texts_data : List (List ℕ) → Data
texts_data texts = list_data string texts

abbrev pub number_data : ℕ → Data
number_data n = number (unsigned n)

abbrev pub Pairs : Type 0
Pairs = List (List ℕ × List ℕ)

abbrev pub string_members : Pairs → Members
string_members [] = no_members
string_members (pair ∷ pairs) = member pair.0 (string pair.1) (string_members pairs)

-- a text map
abbrev pub pairs_data : Pairs → Data
pairs_data pairs = object (string_members pairs)

-- the pairs, each put in place after those before it
abbrev pub pairs_put : Pairs → Pairs → Pairs
pairs_put before [] = before
pairs_put before (pair ∷ pairs) = pairs_put (with_pair pair.0 pair.1 before) pairs

-- the pairs of a text map, which is empty where it isn't there
abbrev pub pairs_spelled : Option Pairs → Pairs
pairs_spelled pairs = pairs_put [] (unwrap_or pairs [])

-- ---- metadata, and the line

-- what is chosen freely of the metadata of an object without a namespace
pub record Head : Type 0 where
  pub name : List ℕ
  pub version : List ℕ
  pub labels : Option Pairs

abbrev pub head_data : Head → Data
head_data head = spelled (
    (codes "labels", option_map pairs_data head.labels) ∷
    (codes "name", Some (string head.name)) ∷
    (codes "resourceVersion", Some (string head.version)) ∷ [])

-- there is a name, and the version is n
abbrev pub IsHead : Head → ℕ → Type 0
IsHead head n = (0 < length head.name) × (version_named head.version ≡ Some n)

abbrev pub added_line : Data → Data
added_line d = object (member (codes "object") d (member (codes "type") (string (codes "ADDED")) no_members))

-- The bytes are a JSON text (RFC 8259) of the value.
abbrev pub Spells : List ℕ → Data → Type 0
Spells line d = value_of_line line ≡ Some d

-- an object of this kind, with these fields in its spec, which may be left out where it has none
abbrev pub object_fields : List ℕ → Head → Bool → List Field → List Field
object_fields kind head left_out spec =
    (codes "kind", Some (string kind)) ∷
    (codes "metadata", Some (head_data head)) ∷
    (codes "spec", parent left_out spec) ∷ []

abbrev pub object_line : List ℕ → Head → Bool → List Field → Data
object_line kind head left_out spec = added_line (spelled (object_fields kind head left_out spec))

-- ---- selectors

-- what is chosen freely of an expression
pub record ExpressionLine : Type 0 where
  pub key : List ℕ
  pub operator : List ℕ
  pub values : Option (List (List ℕ))

abbrev pub expression_data : ExpressionLine → Data
expression_data e = spelled (
    (codes "key", Some (string e.key)) ∷
    (codes "operator", Some (string e.operator)) ∷
    (codes "values", option_map texts_data e.values) ∷ [])

abbrev pub expression_spelled : ExpressionLine → Expression
expression_spelled e = record { key = e.key; operator = e.operator; values = unwrap_or e.values [] }

-- what is chosen freely of a selector
pub record SelectorLine : Type 0 where
  pub labels : Option Pairs
  pub expressions : Option (List ExpressionLine)

abbrev pub selector_data : SelectorLine → Data
selector_data s = spelled (
    (codes "matchExpressions", option_map (list_data expression_data) s.expressions) ∷
    (codes "matchLabels", option_map pairs_data s.labels) ∷ [])

abbrev pub selector_spelled : SelectorLine → SelectorText
selector_spelled s = record {
  labels = pairs_spelled s.labels;
  expressions = map expression_spelled (unwrap_or s.expressions []);
}

abbrev pub SelectorLines : Type 0
SelectorLines = Option (List SelectorLine)

abbrev pub selectors_data : SelectorLines → Option Data
selectors_data selectors = option_map (list_data selector_data) selectors

-- selectors that aren't there are none
abbrev pub selectors_spelled : SelectorLines → List SelectorText
selectors_spelled selectors = map selector_spelled (unwrap_or selectors [])
