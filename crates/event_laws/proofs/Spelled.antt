-- What is read of values that are spelled member by member.
use Rattle.std.proofs.Common.{◌≡◌, ℕ, ◌+◌, ◌<◌, ◌≤◌, List, [], ◌∷◌, Bool, true, false, cond, ◌&&◌, map, Option, Some, None}
use Rattle.std.proofs.Common.{option_map, Result, Ok, is_some, codes, refl, sym, ap, ◌∙◌, length, unwrap_or, arith, IfSome}
use Rattle.std.specs.Bool.{⊤}
use Rattle.std.specs.List.{All}
use Rattle.std.specs.Ordering.{nat_cmp, match_ordering}
use Rattle.std.specs.declared.cmp.Ordering.{Ordering}
use Rattle.std.specs.declared.cmp.Ordering.TheVariants.{Less, Equal, Greater}
use Rattle.std.specs.Option.{option_or}
use Rattle.std.specs.Cmp.Lexicographic.{slice_cmp}
use Rattle.std.proofs.lemmas.Bool.{ne_eqb, le-leb}
use Rattle.std.proofs.lemmas.List.{map-id}
use Rattle.std.proofs.lemmas.List.Elements.{All-head, All-tail}
use Rattle.std.specs.Cmp.{second_so}
use Rattle.serde_json.specs.Data.{Data, string, boolean}
use Rattle.serde_json.specs.Find.{get_member, as_null}
use Rattle.serde_json.specs.View.{items_of}
use Rattle.json_fields.specs.Path.{Path, names_of}
use Rattle.json_fields.specs.Reading.{items_from, list_at, list_of, default_at, optional_at, required_at, tells_at, is_text, name_at, labels_at, labels_of}
use Rattle.json_fields.specs.Reading.{pairs_after, value_at, behind, member_at, unless_null, where_there, object_of, text_of, bool_of, number_in}
use Rattle.json_fields.specs.Expressions.{expression_of}
use Rattle.kube_labels.specs.Pairs.{with_pair}
use Rattle.kube_model.specs.declared.key.Key.{Key}
use Rattle.kube_model.specs.declared.object.Kind.{Kind}
use Rattle.kube_model.specs.declared.object.Kind.TheVariants as kinds
use Rattle.kube_model.specs.declared.event.Event.{Event}
use Rattle.kube_model.specs.declared.event.Event.TheVariants.{Changed}
use Rattle.kube_model.specs.declared.object.Object.{Object}
use Rattle.kube_model.specs.LineWords.{kind_text}
use Rattle.kube_model.specs.Named.{kind_named}
use Rattle.kube_model.specs.SelectorFields.{selector_of}
use Rattle.kube_events.specs.Named.{version_named, version_of}
use Rattle.kube_events.specs.Fields.{key_of, name_field, namespace_field, version_field, labels_field}
use Rattle.kube_events.specs.ObjectFields.{body_of, changed_of}
use Rattle.kube_events.specs.Event.{event_of, event_of_line, text_in}
use Rattle.event_laws.specs.ObjectLines.{Field, with_member, members_there, spelled, are_absent, parent, Spells, list_data, texts_data}
use Rattle.event_laws.specs.ObjectLines.{number_data, Pairs, string_members, pairs_data, pairs_put, pairs_spelled, Head, IsHead}
use Rattle.event_laws.specs.ObjectLines.{added_line, object_fields, object_line, ExpressionLine, expression_data, expression_spelled}
use Rattle.event_laws.specs.ObjectLines.{SelectorLine, selector_data, selector_spelled, SelectorLines, selectors_data, selectors_spelled}

-- ---- members

-- what stands at this name, of fields that come in the order of their names
abbrev pub field_there : List ℕ → List Field → Option Data
field_there name [] = None
field_there name (field ∷ fields) =
    match_ordering (slice_cmp nat_cmp name field.0) (field_there name fields) (option_or field.1 (field_there name fields)) (field_there name fields)

same_each : {A : Type 0} (o : Ordering) (x : A) → match_ordering o x x x ≡ x
same_each Less x = refl
same_each Equal x = refl
same_each Greater x = refl

with_member_there : (name other : List ℕ) (found : Option Data) (fields : List Field)
    → get_member name (members_there fields) ≡ field_there name fields
    → get_member name (with_member other found (members_there fields)) ≡ field_there name ((other, found) ∷ fields)
with_member_there name other None fields same = same ∙ sym (same_each (slice_cmp nat_cmp name other) (field_there name fields))
with_member_there name other (Some d) fields same = rw same refl

pub is_there : (name : List ℕ) (fields : List Field) → get_member name (members_there fields) ≡ field_there name fields
is_there name [] = refl
is_there name (field ∷ fields) = with_member_there name field.0 field.1 fields (is_there name fields)

last : (path : Path) (found : Option Data) → where_there (behind path []) found ≡ Ok found
unfolding behind
last path None = refl
last path (Some d) = refl

member_there : (path name : Path) (fields : List Field) → member_at path name (spelled fields) ≡ Ok (unless_null (field_there name fields))
unfolding member_at
member_there path name fields = rw (is_there name fields) refl

-- the first name of a path leads to the field of that name
in_spelled : (path name : Path) (names : List Path) (fields : List Field)
    → behind path (name ∷ names) (spelled fields) ≡ where_there (behind path names) (unless_null (field_there name fields))
unfolding behind
in_spelled path name names fields = rw (member_there path name fields) refl

none_there : (name : Path) (fields : List Field) → are_absent fields ≡ true → field_there name fields ≡ None
none_there name [] h = refl
none_there name ((other, None) ∷ fields) h = same_each (slice_cmp nat_cmp name other) (field_there name fields) ∙ none_there name fields h
none_there name ((other, Some d) ∷ fields) h = absurd cc

through_case : (b : Bool) (path name : Path) (names : List Path) (inner : List Field) (found : Result (Option Data) Path)
    → (b ≡ true → are_absent inner ≡ true) → behind path (name ∷ names) (spelled inner) ≡ found
    → where_there (behind path (name ∷ names)) (unless_null (cond b None (Some (spelled inner)))) ≡ found
through_case true path name names inner found absent is =
    let none : behind path (name ∷ names) (spelled inner) ≡ Ok None = in_spelled path name names inner ∙ rw (none_there name inner (absent refl)) refl in
    sym none ∙ is
through_case false path name names inner found absent is = is

-- A parent that is left out has none of the members.
through_parent : (path name : Path) (names : List Path) (left_out : Bool) (inner : List Field) (found : Result (Option Data) Path)
    → behind path (name ∷ names) (spelled inner) ≡ found → where_there (behind path (name ∷ names)) (unless_null (parent left_out inner)) ≡ found
through_parent path name names left_out inner found is =
    through_case (left_out && are_absent inner) path name names inner found (second_so left_out (are_absent inner)) is

-- what stands at a path of one name
pub own_value : (path : Path) (fields : List Field) → names_of path ≡ path ∷ [] → value_at path (spelled fields) ≡ Ok (unless_null (field_there path fields))
own_value path fields one = rw one (in_spelled path path [] fields ∙ last path (unless_null (field_there path fields)))

or_none : (found : Option Data) → option_or found None ≡ found
or_none None = refl
or_none (Some d) = refl

-- what stands at a path of two names
pub inner_value : (path first name : Path) (fields : List Field) (left_out : Bool) (inner : List Field) → names_of path ≡ first ∷ name ∷ []
    → field_there first fields ≡ option_or (parent left_out inner) None
    → value_at path (spelled fields) ≡ Ok (unless_null (field_there name inner))
inner_value path first name fields left_out inner two at =
    let through : where_there (behind path (name ∷ [])) (unless_null (parent left_out inner)) ≡ Ok (unless_null (field_there name inner)) =
    through_parent path name [] left_out inner _ (in_spelled path name [] inner ∙ last path (unless_null (field_there name inner))) in
    rw two (in_spelled path first (name ∷ []) fields ∙ rw (at, or_none (parent left_out inner)) through)

-- what stands at a path of three names
pub innermost_value : (path first second name : Path) (fields : List Field) (left_out : Bool) (inner : List Field) (second_out : Bool) (innermost : List Field)
    → names_of path ≡ first ∷ second ∷ name ∷ []
    → field_there first fields ≡ option_or (parent left_out inner) None → field_there second inner ≡ option_or (parent second_out innermost) None
    → value_at path (spelled fields) ≡ Ok (unless_null (field_there name innermost))
innermost_value path first second name fields left_out inner second_out innermost three at within =
    let last_through : where_there (behind path (name ∷ [])) (unless_null (parent second_out innermost)) ≡ Ok (unless_null (field_there name innermost)) =
    through_parent path name [] second_out innermost _ (in_spelled path name [] innermost ∙ last path (unless_null (field_there name innermost))) in
    let through : where_there (behind path (second ∷ name ∷ [])) (unless_null (parent left_out inner)) ≡ Ok (unless_null (field_there name innermost)) =
    through_parent path second (name ∷ []) left_out inner
    _ (in_spelled path second (name ∷ []) inner ∙ rw (within, or_none (parent second_out innermost)) last_through) in
    rw three (in_spelled path first (second ∷ name ∷ []) fields ∙ rw (at, or_none (parent left_out inner)) through)

-- ---- what may be there

-- the field of what is there or not
pub optional_read : {A B : Type 0} (read : Data → Result B Path) (spell : A → Data) (made : A → B) (P : A → Type 0) (path : Path) (d : Data) (found : Option A)
    → value_at path d ≡ Ok (unless_null (option_or (option_map spell found) None))
    → ((x : A) → is_some (as_null (spell x)) ≡ false) → ((x : A) → P x → read (spell x) ≡ Ok (made x)) → IfSome found P
    → optional_at read path d ≡ Ok (option_map made found)
unfolding optional_at
optional_read read spell made P path d None at full each holds = rw at refl
optional_read read spell made P path d (Some x) at full each holds =
    let there : value_at path d ≡ Ok (Some (spell x)) = rw (full x) at at in
    rw (there, each x holds) refl

pub required_read : {B : Type 0} (read : Data → Result B Path) (path : Path) (d found : Data) (x : B)
    → value_at path d ≡ Ok (Some found) → read found ≡ Ok x → required_at read path d ≡ Ok x
unfolding required_at optional_at
required_read read path d found x at is = rw (at, is) refl

option_map_same : {A : Type 0} (found : Option A) → option_map (λ (x : A). x) found ≡ found
option_map_same None = refl
option_map_same (Some x) = refl

all_of : {A : Type 0} (found : Option A) → IfSome found (λ x. ⊤)
all_of None = tt
all_of (Some x) = tt

-- the field of what is read as it is spelled, and is there or not
pub same_optional_read : {A : Type 0} (read : Data → Result A Path) (spell : A → Data) (path : Path) (d : Data) (found : Option A)
    → value_at path d ≡ Ok (unless_null (option_or (option_map spell found) None))
    → ((x : A) → is_some (as_null (spell x)) ≡ false) → ((x : A) → read (spell x) ≡ Ok x)
    → optional_at read path d ≡ Ok found
same_optional_read {A} read spell path d found at full each =
    optional_read read spell (λ x. x) (λ x. ⊤) path d found at full (λ x _. each x) (all_of found) ∙ ap (λ (found : Option A). Ok found) (option_map_same found)

pub default_read : {A : Type 0} (read : Data → Result A Path) (spell : A → Data) (path : Path) (default : A) (d : Data) (found : Option A)
    → value_at path d ≡ Ok (unless_null (option_or (option_map spell found) None))
    → ((x : A) → is_some (as_null (spell x)) ≡ false) → ((x : A) → read (spell x) ≡ Ok x)
    → default_at read path default d ≡ Ok (unwrap_or found default)
unfolding default_at
default_read read spell path default d found at full each = rw (same_optional_read read spell path d found at full each) refl

-- ---- lists

pub items_read : {A B : Type 0} (read : Data → Result B Path) (spell : A → Data) (made : A → B) (P : A → Type 0)
    → ((x : A) → P x → read (spell x) ≡ Ok (made x))
    → (i : ℕ) (xs : List A) → All P xs → items_from read i (items_of (map spell xs)) ≡ Ok (map made xs)
unfolding items_from
items_read read spell made P each i [] hold = refl
items_read read spell made P each i (x ∷ xs) hold =
    rw (each x (All-head P x xs hold), items_read read spell made P each (i + 1) xs (All-tail P x xs hold)) refl

each_of : {A : Type 0} (xs : List A) → All (λ x. ⊤) xs
each_of xs = λ k d lt. tt

lists_of : {A : Type 0} (found : Option (List A)) → IfSome found (All (λ x. ⊤))
lists_of None = tt
lists_of (Some xs) = each_of xs

made_list : {A B : Type 0} (made : A → B) (found : Option (List A)) → unwrap_or (option_map (map made) found) [] ≡ map made (unwrap_or found [])
made_list made None = refl
made_list made (Some xs) = refl

-- a list that is there or not, of values that are read each by itself
pub list_read_if : {A B : Type 0} (read : Data → Result B Path) (spell : A → Data) (made : A → B) (P : A → Type 0) (path : Path) (d : Data)
    (found : Option (List A))
    → value_at path d ≡ Ok (unless_null (option_or (option_map (list_data spell) found) None))
    → ((x : A) → P x → read (spell x) ≡ Ok (made x)) → IfSome found (All P)
    → list_at read path d ≡ Ok (map made (unwrap_or found []))
unfolding list_at list_of
list_read_if {A} {B} read spell made P path d found at each hold =
    let items : (xs : List A) → All P xs → items_from read 0 (items_of (map spell xs)) ≡ Ok (map made xs) = items_read read spell made P each 0 in
    let field : optional_at (list_of read) path d ≡ Ok (option_map (map made) found) =
    optional_read (list_of read) (list_data spell) (map made) (All P) path d found at (λ xs. refl) items hold in
    rw field (ap (λ (xs : List B). Ok xs) (made_list made found))

pub list_read : {A B : Type 0} (read : Data → Result B Path) (spell : A → Data) (made : A → B) (path : Path) (d : Data) (found : Option (List A))
    → value_at path d ≡ Ok (unless_null (option_or (option_map (list_data spell) found) None))
    → ((x : A) → read (spell x) ≡ Ok (made x))
    → list_at read path d ≡ Ok (map made (unwrap_or found []))
list_read read spell made path d found at each = list_read_if read spell made (λ x. ⊤) path d found at (λ x _. each x) (lists_of found)

-- a list of values that are read as they are spelled
pub same_list_read : {A : Type 0} (read : Data → Result A Path) (spell : A → Data) (path : Path) (d : Data) (found : Option (List A))
    → value_at path d ≡ Ok (unless_null (option_or (option_map (list_data spell) found) None))
    → ((x : A) → read (spell x) ≡ Ok x)
    → list_at read path d ≡ Ok (unwrap_or found [])
same_list_read {A} read spell path d found at each =
    list_read read spell (λ x. x) path d found at each ∙ ap (λ (xs : List A). Ok xs) (map-id (unwrap_or found []))

pub text_read : (text : List ℕ) → text_of (string text) ≡ Ok text
unfolding text_of
text_read text = refl

pub texts_read : (path : Path) (d : Data) (found : Option (List (List ℕ)))
    → value_at path d ≡ Ok (unless_null (option_or (option_map texts_data found) None)) → list_at text_of path d ≡ Ok (unwrap_or found [])
texts_read path d found at = same_list_read text_of string path d found at text_read

pub tells_read : (path wanted : List ℕ) (d : Data) (found : Option (List ℕ))
    → value_at path d ≡ Ok (unless_null (option_or (option_map string found) None)) → tells_at path wanted d ≡ Ok (is_text found wanted)
unfolding tells_at
tells_read path wanted d found at = rw (same_optional_read text_of string path d found at (λ text. refl) text_read) refl

-- ---- text maps

pub pairs_read : (before pairs : Pairs) → pairs_after before (string_members pairs) ≡ Some (pairs_put before pairs)
unfolding pairs_after
pairs_read before [] = refl
pairs_read before (pair ∷ pairs) = pairs_read (with_pair pair.0 pair.1 before) pairs

made_pairs : (found : Option Pairs) → unwrap_or (option_map (pairs_put []) found) [] ≡ pairs_spelled found
made_pairs None = refl
made_pairs (Some pairs) = refl

map_read : (pairs : Pairs) → labels_of (pairs_data pairs) ≡ Ok (pairs_put [] pairs)
unfolding labels_of
map_read pairs = rw (pairs_read [] pairs) refl

pub labels_read : (path : Path) (d : Data) (found : Option Pairs)
    → value_at path d ≡ Ok (unless_null (option_or (option_map pairs_data found) None)) → labels_at path d ≡ Ok (pairs_spelled found)
unfolding labels_at
labels_read path d found at =
    let field : optional_at labels_of path d ≡ Ok (option_map (pairs_put []) found) =
    optional_read labels_of pairs_data (pairs_put []) (λ pairs. ⊤) path d found at (λ pairs. refl) (λ pairs _. map_read pairs) (all_of found) in
    rw field (ap (λ (pairs : Pairs). Ok pairs) (made_pairs found))

-- ---- numbers

pub number_read : (low high n : ℕ) → (low ≤ n) × (n ≤ high) → number_in low high (number_data n) ≡ Ok n
unfolding number_in
number_read low high n within = rw (le-leb low n within.0, le-leb n high within.1) refl

in_range_or_not : (low high : ℕ) (found : Option ℕ) → IfSome found (λ n. (low ≤ n) × (n ≤ high)) → (path : Path) (d : Data)
    → value_at path d ≡ Ok (unless_null (option_or (option_map number_data found) None)) → optional_at (number_in low high) path d ≡ Ok found
in_range_or_not low high found in_range path d at =
    optional_read (number_in low high) number_data (λ n. n) (λ n. (low ≤ n) × (n ≤ high)) path d found at (λ n. refl) (λ n h. number_read low high n h) in_range
    ∙ ap (λ (found : Option ℕ). Ok found) (option_map_same found)

-- a number that is there, in its range, or not
pub number_or_read : (low high : ℕ) (path : Path) (default : ℕ) (d : Data) (found : Option ℕ)
    → value_at path d ≡ Ok (unless_null (option_or (option_map number_data found) None)) → IfSome found (λ n. (low ≤ n) × (n ≤ high))
    → default_at (number_in low high) path default d ≡ Ok (unwrap_or found default)
unfolding default_at
number_or_read low high path default d found at in_range = rw (in_range_or_not low high found in_range path d at) refl

-- ---- flags

pub flag_read : (flag : Bool) → bool_of (boolean flag) ≡ Ok flag
unfolding bool_of
flag_read flag = refl

-- ---- selectors

expression_read : (e : ExpressionLine) → expression_of (expression_data e) ≡ Ok (expression_spelled e)
unfolding expression_of object_of
expression_read e =
    let fields : List Field =
    (codes "key", Some (string e.key)) ∷ (codes "operator", Some (string e.operator)) ∷ (codes "values", option_map texts_data e.values) ∷ [] in
    let key : required_at text_of (codes "key") (spelled fields) ≡ Ok e.key =
    required_read text_of (codes "key") (spelled fields) (string e.key) e.key (own_value (codes "key") fields refl) (text_read e.key) in
    let operator : required_at text_of (codes "operator") (spelled fields) ≡ Ok e.operator = required_read text_of (codes "operator") (spelled fields)
    (string e.operator) e.operator (own_value (codes "operator") fields refl) (text_read e.operator) in
    let values : list_at text_of (codes "values") (spelled fields) ≡ Ok (unwrap_or e.values []) =
    texts_read (codes "values") (spelled fields) e.values (own_value (codes "values") fields refl) in
    rw (key, operator, values) refl

pub selector_read : (s : SelectorLine) → selector_of (selector_data s) ≡ Ok (selector_spelled s)
unfolding selector_of object_of
selector_read s =
    let fields : List Field =
    (codes "matchExpressions", option_map (list_data expression_data) s.expressions) ∷ (codes "matchLabels", option_map pairs_data s.labels) ∷ [] in
    let labels : labels_at (codes "matchLabels") (spelled fields) ≡ Ok (pairs_spelled s.labels) =
    labels_read (codes "matchLabels") (spelled fields) s.labels (own_value (codes "matchLabels") fields refl) in
    let expressions : list_at expression_of (codes "matchExpressions") (spelled fields) ≡ Ok (map expression_spelled (unwrap_or s.expressions [])) =
    list_read expression_of expression_data expression_spelled (codes "matchExpressions") (spelled fields) s.expressions
    (own_value (codes "matchExpressions") fields refl) expression_read in
    rw (labels, expressions) refl

pub selectors_read : (path : Path) (d : Data) (found : SelectorLines)
    → value_at path d ≡ Ok (unless_null (option_or (selectors_data found) None)) → list_at selector_of path d ≡ Ok (selectors_spelled found)
selectors_read path d found at = list_read selector_of selector_data selector_spelled path d found at selector_read

-- ---- objects

pub kinds_named : (kind : Kind) → kind_named (kind_text kind) ≡ Some kind
kinds_named kinds.Service = refl
kinds_named kinds.Pool = refl
kinds_named kinds.L2 = refl
kinds_named kinds.Bgp = refl
kinds_named kinds.Peer = refl
kinds_named kinds.Community = refl
kinds_named kinds.Namespace = refl
kinds_named kinds.Node = refl
kinds_named kinds.Slice = refl

-- the event of a line is that of the value that its bytes spell
pub from_bytes : (line : List ℕ) (d : Data) (event : Event) → Spells line d → event_of d ≡ Ok event → event_of_line line ≡ Ok event
unfolding event_of_line
from_bytes line d event spells is = rw spells is

-- the event of an object, by what each part of it is read as
pub object_read : (kind : Kind) (d : Data) (key : Key) (n : ℕ) (labels : Pairs) (make : Key → Pairs → Object)
    → text_in (codes "kind") d ≡ Some (kind_text kind) → key_of kind d ≡ Ok key → version_field d ≡ Ok n → labels_field d ≡ Ok labels → body_of kind d ≡ Ok make
    → event_of (added_line d) ≡ Ok (Changed n (make key labels))
unfolding event_of changed_of
object_read kind d key n labels make named is_key is_version are_labels is_body =
    rw (named, kinds_named kind, is_key, is_version, are_labels, is_body) refl

pub name_read : (path : Path) (d : Data) (name : List ℕ) → value_at path d ≡ Ok (Some (string name)) → 0 < length name → name_at path d ≡ Ok name
unfolding name_at
name_read path d name at long =
    let field : required_at text_of path d ≡ Ok name = required_read text_of path d (string name) name at (text_read name) in
    rw (field, ne_eqb (length name) 0 (λ none. omega (arith, none))) refl

pub version_read : (d : Data) (version : List ℕ) (n : ℕ) → value_at (codes "metadata.resourceVersion") d ≡ Ok (Some (string version))
    → version_named version ≡ Some n → version_field d ≡ Ok n
unfolding version_of
version_read d version n at is = required_read version_of (codes "metadata.resourceVersion") d (string version) n at (rw is refl)

-- the event of an object of a kind without namespaces, by what its spec is read as
pub head_read : (kind : Kind) (line : List ℕ) (head : Head) (left_out : Bool) (own : List Field) (n : ℕ) (make : Key → Pairs → Object)
    → Spells line (object_line (kind_text kind) head left_out own)
    → ((d : Data) → namespace_field kind d ≡ Ok []) → IsHead head n → body_of kind (spelled (object_fields (kind_text kind) head left_out own)) ≡ Ok make
    → event_of_line line ≡ Ok (Changed n (make (record { namespace = []; name = head.name }) (pairs_spelled head.labels)))
unfolding key_of
head_read kind line head left_out own n make spells global is_head is_body =
    let fields : List Field = object_fields (kind_text kind) head left_out own in
    let inner : List Field = (codes "labels", option_map pairs_data head.labels) ∷ (codes "name", Some (string head.name))
    ∷ (codes "resourceVersion", Some (string head.version)) ∷ [] in
    let name : name_field (spelled fields) ≡ Ok head.name = name_read (codes "metadata.name") (spelled fields) head.name
    (inner_value (codes "metadata.name") (codes "metadata") (codes "name") fields false inner refl refl) is_head.0 in
    let key : key_of kind (spelled fields) ≡ Ok (record { namespace = []; name = head.name }) = rw (name, global (spelled fields)) refl in
    from_bytes line (object_line (kind_text kind) head left_out own) _ spells
    (object_read kind (spelled fields) (record { namespace = []; name = head.name }) n (pairs_spelled head.labels) make
    refl
    key
    (version_read (spelled fields) head.version n
    (inner_value (codes "metadata.resourceVersion") (codes "metadata") (codes "resourceVersion") fields false inner refl refl) is_head.1)
    (labels_read (codes "metadata.labels") (spelled fields) head.labels
    (inner_value (codes "metadata.labels") (codes "metadata") (codes "labels") fields false inner refl refl))
    is_body)

-- what stands in the spec of such an object
pub spec_value : (path name : Path) (kind : List ℕ) (head : Head) (left_out : Bool) (own : List Field) → names_of path ≡ codes "spec" ∷ name ∷ []
    → value_at path (spelled (object_fields kind head left_out own)) ≡ Ok (unless_null (field_there name own))
spec_value path name kind head left_out own two = inner_value path (codes "spec") name (object_fields kind head left_out own) left_out own two refl
