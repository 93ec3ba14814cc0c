-- What a value of a type tells, and what fields tell in their order, or the path of the first that is invalid.
use Rattle.std.specs.Prelude.{ℕ, ◌+◌, ◌&&◌, ◌||◌, List, [], ◌∷◌, Bool, false, Option, Some, None}
use Rattle.std.specs.Prelude.{option_map, option_and_then, Result, Ok, Err, nat_le, if◌then◌else◌, ⊤}
use Rattle.std.specs.Result.{result_ok}
use Rattle.std.specs.Str.{bytes_eq}
use Rattle.hex.specs.Hex.{decode_of}
use Rattle.serde_json.specs.Data.{Data, null, boolean, number, string, array, object, unsigned, Items, no_items, item, Members, no_members, member}
use Rattle.json_fields.specs.Path.{Path, names_of, joined, item_place}
use Rattle.kube_labels.specs.Pairs.{with_pair}
use Rattle.ip_ranges.specs.Values.{AddressValue}
use Rattle.ip_ranges.specs.AddressText.{address_of}
use Rattle.kube_events.specs.Named.{version_named}
use Rattle.field_laws.specs.Standing.{Standing, nothing, astray, here, look}
use Rattle.field_laws.specs.FieldTypes.{FieldType, any_text, full_text, true_or_false, whole_number, version_text, one_text, two_texts}
use Rattle.field_laws.specs.FieldTypes.{address_text, hex_text, text_map, a_list, an_object, Row, required, optional, defaulted, Rows, no_rows, ◌▸◌}

abbrev pub Pairs : Type 0
Pairs = List (List ℕ × List ℕ)

-- ---- values of each type

abbrev mutual
  pub Told : FieldType → Type 0
  Told any_text = List ℕ
  Told full_text = List ℕ
  Told true_or_false = Bool
  Told (whole_number low high) = ℕ
  Told version_text = ℕ
  Told (one_text texts) = List ℕ
  Told (two_texts texts) = List (List ℕ)
  Told address_text = AddressValue
  Told hex_text = List ℕ
  Told text_map = Pairs
  Told (a_list each) = List (Told each)
  Told (an_object rows) = RowsTold rows

  pub RowTold : Row → Type 0
  RowTold (required path type) = Told type
  RowTold (optional path type) = Option (Told type)
  RowTold (defaulted path type default) = Told type

  pub RowsTold : Rows → Type 0
  RowsTold no_rows = ⊤
  RowsTold (row ▸ rows) = RowTold row × RowsTold rows

-- ---- plain values

abbrev pub text_in : Data → Option (List ℕ)
text_in (string text) = Some text
text_in d = None

abbrev pub truth_in : Data → Option Bool
truth_in (boolean b) = Some b
truth_in d = None

-- JSON's `7`, and neither `7.0` nor `-7`
abbrev pub number_from : ℕ → ℕ → Data → Option ℕ
number_from low high (number (unsigned n)) = if nat_le low n && nat_le n high then Some n else None
number_from low high d = None

abbrev pub unless_empty : List ℕ → Option (List ℕ)
unless_empty [] = None
unless_empty (c ∷ text) = Some (c ∷ text)

abbrev pub is_among : List (List ℕ) → List ℕ → Bool
is_among [] text = false
is_among (one ∷ texts) text = bytes_eq text one || is_among texts text

abbrev pub if_among : List (List ℕ) → List ℕ → Option (List ℕ)
if_among texts text = if is_among texts text then Some text else None

-- the members that aren't null, if all of them are texts
abbrev pub pairs_among : Members → Option Pairs
pairs_among no_members = Some []
pairs_among (member name null others) = pairs_among others
pairs_among (member name (string text) others) = option_map (λ pairs. (name, text) ∷ pairs) (pairs_among others)
pairs_among (member name d others) = None

-- the pairs by ascending name
abbrev pub in_order : Pairs → Pairs → Pairs
in_order before [] = before
in_order before (pair ∷ pairs) = in_order (with_pair pair.0 pair.1 before) pairs

abbrev pub pairs_in : Data → Option Pairs
pairs_in (object members) = option_map (in_order []) (pairs_among members)
pairs_in d = None

abbrev pub two_distinct : List (List ℕ) → Option (List (List ℕ))
two_distinct [] = Some []
two_distinct (one ∷ []) = Some (one ∷ [])
two_distinct (one ∷ other ∷ []) = if bytes_eq one other then None else Some (one ∷ other ∷ [])
two_distinct (one ∷ other ∷ third ∷ texts) = None

-- ---- with the path of what is at fault

abbrev pub or_fault : {A : Type 0} → Option A → Result A Path
or_fault (Some x) = Ok x
or_fault None = Err []

abbrev pub as_put : {A B : Type 0} → (A → B) → Result A Path → Result B Path
as_put make (Ok x) = Ok (make x)
as_put make (Err path) = Err path

-- seen from the place of a value, a fault in it has the place in front of its path
abbrev pub at_place : {A : Type 0} → Path → Result A Path → Result A Path
at_place place (Ok x) = Ok x
at_place place (Err path) = Err (joined place path)

-- one after the other: the first fault counts
abbrev pub both : {A B : Type 0} → Result A Path → Result B Path → Result (A × B) Path
both (Err path) other = Err path
both (Ok x) (Err path) = Err path
both (Ok x) (Ok y) = Ok (x, y)

abbrev pub joined_list : {A : Type 0} → Result (A × List A) Path → Result (List A) Path
joined_list (Ok told) = Ok (told.0 ∷ told.1)
joined_list (Err path) = Err path

-- the items from this place on
abbrev pub each_told : {A : Type 0} → (Data → Result A Path) → ℕ → Items → Result (List A) Path
each_told tell index no_items = Ok []
each_told tell index (item d items) = joined_list (both (at_place (item_place index) (tell d)) (each_told tell (index + 1) items))

abbrev pub list_told : {A : Type 0} → (Data → Result A Path) → Data → Result (List A) Path
list_told tell (array items) = each_told tell 0 items
list_told tell d = Err []

abbrev pub and_then : {A B : Type 0} → (A → Option B) → Result A Path → Result B Path
and_then test (Ok x) = or_fault (test x)
and_then test (Err path) = Err path

abbrev pub if_object : {A : Type 0} → (Data → Result A Path) → Data → Result A Path
if_object tell (object members) = tell (object members)
if_object tell d = Err []

-- by what stands at a path: what it tells where nothing does, and what it tells of a value
abbrev pub standing_tells : {A B : Type 0} → Path → (A → B) → Result B Path → (Data → Result A Path) → Standing → Result B Path
standing_tells path make absent tell nothing = absent
standing_tells path make absent tell astray = Err path
standing_tells path make absent tell (here d) = as_put make (at_place path (tell d))

abbrev mutual
  pub told : (type : FieldType) → Data → Result (Told type) Path
  told any_text d = or_fault (text_in d)
  told full_text d = or_fault (option_and_then unless_empty (text_in d))
  told true_or_false d = or_fault (truth_in d)
  told (whole_number low high) d = or_fault (number_from low high d)
  told version_text d = or_fault (option_and_then version_named (text_in d))
  told (one_text texts) d = or_fault (option_and_then (if_among texts) (text_in d))
  told (two_texts texts) d = and_then two_distinct (list_told (λ e. or_fault (option_and_then (if_among texts) (text_in e))) d)
  told address_text d = or_fault (option_and_then (λ text. result_ok (address_of text)) (text_in d))
  told hex_text d = or_fault (option_and_then (λ text. result_ok (decode_of text)) (text_in d))
  told text_map d = or_fault (pairs_in d)
  told (a_list each) d = list_told (told each) d
  told (an_object rows) d = if_object (rows_told rows) d

  pub row_told : (row : Row) → Data → Result (RowTold row) Path
  row_told (required path type) d = standing_tells path (λ x. x) (Err path) (told type) (look (names_of path) d)
  row_told (optional path type) d = standing_tells path (λ x. Some x) (Ok None) (told type) (look (names_of path) d)
  row_told (defaulted path type default) d = standing_tells path (λ x. x) (told type default) (told type) (look (names_of path) d)

  pub rows_told : (rows : Rows) → Data → Result (RowsTold rows) Path
  rows_told no_rows d = Ok tt
  rows_told (row ▸ rows) d = both (row_told row d) (rows_told rows d)
