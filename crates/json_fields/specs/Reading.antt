-- What a JSON value stands for, or the path of the first field in it that is invalid.
use Rattle.std.specs.Prelude.{◌≡◌, ℕ, ◌+◌, ◌&&◌, List, [], ◌∷◌, Bool, false, Option, Some, None, Result, Ok}
use Rattle.std.specs.Prelude.{Err, is_some, option_and_then, unwrap_or, nat_le, if◌then◌else◌, length, ◌==◌, ⊤}
use Rattle.std.specs.Str.{bytes_eq}
use Rattle.serde_json.specs.Data.{Data, Items, no_items, item, Members, no_members, member}
use Rattle.serde_json.specs.Find.{get, as_null, as_bool, as_str, as_number, as_u64, as_array, as_object}
use Rattle.kube_labels.specs.Pairs.{with_pair}
use Rattle.json_fields.specs.Path.{Path, names_of, joined, item_place}
use Rattle.json_fields.specs.declared.fault.FieldFault.{FieldFault}
use Rattle.json_fields.specs.declared.fault.FieldFault.TheVariants.{Faulty, NoMemory}

infixl 10 ◌>>=◌
abbrev pub ◌>>=◌ : {A B E : Type 0} → Result A E → (A → Result B E) → Result B E
(Ok x) >>= f = f x
(Err e) >>= f = Err e

-- ---- what a call returned, against what is read

abbrev pub Names : FieldFault → Path → Type 0
Names (Faulty p) path = p ≡ path
Names NoMemory path = Unit {0}

abbrev pub Moves : FieldFault → Path → FieldFault → Type 0
Moves (Faulty p) place moved = Names moved (joined place p)
Moves NoMemory place moved = moved ≡ NoMemory

-- The fault is the one that reading meets, unless memory ran out.
abbrev pub Fails : {Y : Type 0} → FieldFault → Result Y Path → Type 0
Fails (Faulty path) read = read ≡ Err path
Fails NoMemory read = Unit {0}

-- What a call returned, seen by view, is what reading gives, unless memory ran out.
abbrev pub Gives : {X Y : Type 0} → (X → Y) → Result X FieldFault → Result Y Path → Type 0
Gives view (Ok x) read = read ≡ Ok (view x)
Gives view (Err fault) read = Fails fault read

-- ---- places

-- a value, or the fault of the value itself
abbrev pub or_itself : {A : Type 0} → Option A → Result A Path
or_itself (Some x) = Ok x
or_itself None = Err []

-- null counts as absent
abbrev pub unless_null : Option Data → Option Data
unless_null None = None
unless_null (Some d) = if is_some (as_null d) then None else Some d

-- the member of this name; what is no object is a fault at the path
unfoldable pub member_at : Path → List ℕ → Data → Result (Option Data) Path
member_at path name d = if is_some (as_object d) then Ok (unless_null (get name d)) else Err path

abbrev pub where_there : {A : Type 0} → (Data → Result (Option A) Path) → Option Data → Result (Option A) Path
where_there go None = Ok None
where_there go (Some d) = go d

-- what stands after these names, one inside the other
unfoldable pub behind : Path → List (List ℕ) → Data → Result (Option Data) Path
behind path [] d = Ok (Some d)
behind path (name ∷ names) d = do
  found ← member_at path name d
  where_there (behind path names) found

abbrev pub value_at : Path → Data → Result (Option Data) Path
value_at path d = behind path (names_of path) d

-- ---- fields

abbrev pub within : {A : Type 0} → Path → Result A Path → Result A Path
within place (Ok x) = Ok x
within place (Err path) = Err (joined place path)

abbrev pub some_of : {A : Type 0} → Result A Path → Result (Option A) Path
some_of (Ok x) = Ok (Some x)
some_of (Err path) = Err path

unfoldable pub optional_at : {A : Type 0} → (Data → Result A Path) → Path → Data → Result (Option A) Path
optional_at read path d = do
  found ← value_at path d
  where_there (λ value. some_of (within path (read value))) found

abbrev pub or_missing : {A : Type 0} → Path → Option A → Result A Path
or_missing path (Some x) = Ok x
or_missing path None = Err path

unfoldable pub required_at : {A : Type 0} → (Data → Result A Path) → Path → Data → Result A Path
required_at read path d = do
  found ← optional_at read path d
  or_missing path found

-- ---- types

unfoldable pub text_of : Data → Result (List ℕ) Path
text_of d = or_itself (as_str d)

unfoldable pub bool_of : Data → Result Bool Path
bool_of d = or_itself (as_bool d)

abbrev pub in_range : ℕ → ℕ → ℕ → Option ℕ
in_range low high n = if nat_le low n && nat_le n high then Some n else None

unfoldable pub number_in : ℕ → ℕ → Data → Result ℕ Path
number_in low high d = or_itself (option_and_then (in_range low high) (option_and_then as_u64 (as_number d)))

-- the items from this place on
unfoldable pub items_from : {A : Type 0} → (Data → Result A Path) → ℕ → Items → Result (List A) Path
items_from read index no_items = Ok []
items_from read index (item d ds) = do
  first ← within (item_place index) (read d)
  others ← items_from read (index + 1) ds
  Ok (first ∷ others)

abbrev pub items_if : {A : Type 0} → (Data → Result A Path) → Option Items → Result (List A) Path
items_if read (Some ds) = items_from read 0 ds
items_if read None = Err []

unfoldable pub list_of : {A : Type 0} → (Data → Result A Path) → Data → Result (List A) Path
list_of read d = items_if read (as_array d)

-- a list that is absent is empty
unfoldable pub list_at : {A : Type 0} → (Data → Result A Path) → Path → Data → Result (List A) Path
list_at read path d = do
  found ← optional_at (list_of read) path d
  Ok (unwrap_or found [])

-- what a value stands for, where that is told by its text
abbrev pub one_of : {A : Type 0} → (List ℕ → Option A) → Data → Result A Path
one_of named d = or_itself (option_and_then named (as_str d))

-- an object, with members still to be read
unfoldable pub object_of : Data → Result ⊤ Path
object_of d = if is_some (as_object d) then Ok tt else Err []

-- the pairs, and after them those of the members that are not null; nothing where such a one is no text
unfoldable pub pairs_after : List (List ℕ × List ℕ) → Members → Option (List (List ℕ × List ℕ))
pairs_after pairs no_members = Some pairs
pairs_after pairs (member name d ms) = if is_some (as_null d) then pairs_after pairs ms
    else option_and_then (λ text. pairs_after (with_pair name text pairs) ms) (as_str d)

-- a text map
unfoldable pub labels_of : Data → Result (List (List ℕ × List ℕ)) Path
labels_of d = or_itself (option_and_then (pairs_after []) (as_object d))

-- a text map that is absent is empty
unfoldable pub labels_at : Path → Data → Result (List (List ℕ × List ℕ)) Path
labels_at path d = do
  found ← optional_at labels_of path d
  Ok (unwrap_or found [])

-- the default stands for a field that is absent
unfoldable pub default_at : {A : Type 0} → (Data → Result A Path) → Path → A → Data → Result A Path
default_at read path default d = do
  found ← optional_at read path d
  Ok (unwrap_or found default)

abbrev pub is_text : Option (List ℕ) → List ℕ → Bool
is_text None wanted = false
is_text (Some text) wanted = bytes_eq text wanted

-- whether the text at the path is there and is the one wanted
unfoldable pub tells_at : Path → List ℕ → Data → Result Bool Path
tells_at path wanted d = do
  found ← optional_at text_of path d
  Ok (is_text found wanted)

-- a text that is not empty
unfoldable pub name_at : Path → Data → Result (List ℕ) Path
name_at path d = do
  name ← required_at text_of path d
  if length name == 0 then Err path else Ok name

-- what a call returned is this, unless memory ran out
abbrev pub GivesIf : {A : Type 0} → Result A FieldFault → A → Type 0
GivesIf (Ok x) y = x ≡ y
GivesIf (Err fault) y = fault ≡ NoMemory
