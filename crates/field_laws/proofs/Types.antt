-- What is read of a value of each type is what it tells.
use Rattle.std.proofs.Common.{◌≡◌, ℕ, ◌+◌, List, [], ◌∷◌, map, Option, Some, None, option_map, option_and_then, Result, Ok, Err, refl, ap, ◌∙◌}
use Rattle.std.proofs.lemmas.List.{map-id}
use Rattle.serde_json.specs.Data.{Data, null, boolean, number, string, array, object, unsigned, negative}
use Rattle.serde_json.specs.Data.{float, Items, no_items, item, Members, no_members, member}
use Rattle.serde_json.specs.Find.{as_str}
use Rattle.json_fields.specs.Path.{Path, item_place}
use Rattle.json_fields.specs.Reading.{◌>>=◌, within, or_itself, one_of, items_from, list_of, list_at, text_of}
use Rattle.json_fields.specs.Reading.{bool_of, number_in, pairs_after, labels_of, labels_at, object_of, default_at}
use Rattle.kube_labels.specs.Pairs.{with_pair}
use Rattle.field_laws.specs.FieldTypes.{FieldType, any_text, true_or_false, whole_number, one_text, text_map, a_list, an_object, Rows}
use Rattle.field_laws.specs.Told.{Pairs, Told, RowsTold, text_in, if_among, pairs_among, in_order, or_fault, as_put}
use Rattle.field_laws.specs.Told.{at_place, both, joined_list, each_told, list_told, told, row_told, rows_told}
use Rattle.field_laws.specs.Tables.{listed, mapped}
use Rattle.field_laws.proofs.Places.{Tells, default_row}

-- ---- plain values

pub itself : {A : Type 0} (found : Option A) → or_itself found ≡ as_put (λ x. x) (or_fault found)
itself (Some x) = refl
itself None = refl

pub same_text : (d : Data) → as_str d ≡ text_in d
same_text null = refl
same_text (boolean b) = refl
same_text (number n) = refl
same_text (string text) = refl
same_text (array ds) = refl
same_text (object ms) = refl

pub text_tells : Tells text_of (told any_text) (λ text. text)
unfolding text_of
text_tells d = ap or_itself (same_text d) ∙ itself (text_in d)

-- what a text names
pub named_tells : {A : Type 0} (named : List ℕ → Option A) (d : Data) → one_of named d ≡ as_put (λ x. x) (or_fault (option_and_then named (text_in d)))
named_tells named d = ap (λ text. or_itself (option_and_then named text)) (same_text d) ∙ itself (option_and_then named (text_in d))

pub truth_tells : Tells bool_of (told true_or_false) (λ b. b)
unfolding bool_of
truth_tells null = refl
truth_tells (boolean b) = refl
truth_tells (number n) = refl
truth_tells (string text) = refl
truth_tells (array ds) = refl
truth_tells (object ms) = refl

pub number_tells : (low high : ℕ) → Tells (number_in low high) (told (whole_number low high)) (λ n. n)
unfolding number_in
number_tells low high null = refl
number_tells low high (boolean b) = refl
number_tells low high (number (unsigned n)) = itself _
number_tells low high (number (negative z)) = refl
number_tells low high (number (float x)) = refl
number_tells low high (string text) = refl
number_tells low high (array ds) = refl
number_tells low high (object ms) = refl

-- ---- words

made_of : {A X : Type 0} (make : X → A) (found : Option X) → or_itself (option_map make found) ≡ as_put make (or_fault found)
made_of make (Some x) = refl
made_of make None = refl

-- what one of some texts names
pub word_tells : {A : Type 0} (named : List ℕ → Option A) (texts : List (List ℕ)) (make : List ℕ → A)
    → ((text : List ℕ) → named text ≡ option_map make (if_among texts text)) → Tells (one_of named) (told (one_text texts)) make
word_tells named texts make same null = refl
word_tells named texts make same (boolean b) = refl
word_tells named texts make same (number n) = refl
word_tells named texts make same (string text) = ap or_itself (same text) ∙ made_of make (if_among texts text)
word_tells named texts make same (array ds) = refl
word_tells named texts make same (object ms) = refl

-- ---- text maps

put_later : (before : Pairs) (name text : List ℕ) (found : Option Pairs)
    → option_map (in_order (with_pair name text before)) found ≡ option_map (in_order before) (option_map (λ pairs. (name, text) ∷ pairs) found)
put_later before name text (Some pairs) = refl
put_later before name text None = refl

pub pairs_told : (before : Pairs) (ms : Members) → pairs_after before ms ≡ option_map (in_order before) (pairs_among ms)
unfolding pairs_after
pairs_told before no_members = refl
pairs_told before (member name null ms) = pairs_told before ms
pairs_told before (member name (boolean b) ms) = refl
pairs_told before (member name (number n) ms) = refl
pairs_told before (member name (string text) ms) = pairs_told (with_pair name text before) ms ∙ put_later before name text (pairs_among ms)
pairs_told before (member name (array ds) ms) = refl
pairs_told before (member name (object inner) ms) = refl

pub map_tells : Tells labels_of (told text_map) (λ pairs. pairs)
unfolding labels_of
map_tells null = refl
map_tells (boolean b) = refl
map_tells (number n) = refl
map_tells (string text) = refl
map_tells (array ds) = refl
map_tells (object ms) = ap or_itself (pairs_told [] ms) ∙ itself (option_map (in_order []) (pairs_among ms))

pub map_row : (path : Path) (d : Data) → labels_at path d ≡ as_put (λ pairs. pairs) (row_told (mapped path) d)
unfolding labels_at default_at
map_row path d = default_row labels_of text_map (λ pairs. pairs) path [] (object no_members) map_tells refl d

-- ---- lists

item_told : {A X : Type 0} (make : X → A) (place : Path) (first : Result X Path) (others : Result (List X) Path)
    → (within place (as_put make first) >>= λ x. as_put (map make) others >>= λ xs. Ok (x ∷ xs))
    ≡ as_put (map make) (joined_list (both (at_place place first) others))
item_told make place (Ok x) (Ok xs) = refl
item_told make place (Ok x) (Err path) = refl
item_told make place (Err path) others = refl

then_items : {A : Type 0} (place : Path) (one other : Result A Path) (rest same_rest : Result (List A) Path) → one ≡ other → rest ≡ same_rest
    → (within place one >>= λ x. rest >>= λ xs. Ok (x ∷ xs)) ≡ (within place other >>= λ x. same_rest >>= λ xs. Ok (x ∷ xs))
then_items place one other rest same_rest first others = rw (first, others) refl

items_told : {A X : Type 0} (read : Data → Result A Path) (tell : Data → Result X Path) (make : X → A) → Tells read tell make → (index : ℕ) (ds : Items)
    → items_from read index ds ≡ as_put (map make) (each_told tell index ds)
unfolding items_from
items_told read tell make same index no_items = refl
items_told read tell make same index (item d ds) =
    then_items (item_place index) (read d) (as_put make (tell d)) (items_from read (index + 1) ds) (as_put (map make) (each_told tell (index + 1) ds)) (same d)
    (items_told read tell make same (index + 1) ds)
    ∙ item_told make (item_place index) (tell d) (each_told tell (index + 1) ds)

pub list_tells : {A X : Type 0} (read : Data → Result A Path) (tell : Data → Result X Path) (make : X → A) → Tells read tell make
    → Tells (list_of read) (list_told tell) (map make)
unfolding list_of
list_tells read tell make same null = refl
list_tells read tell make same (boolean b) = refl
list_tells read tell make same (number n) = refl
list_tells read tell make same (string text) = refl
list_tells read tell make same (array ds) = items_told read tell make same 0 ds
list_tells read tell make same (object ms) = refl

pub list_row : {A : Type 0} (read : Data → Result A Path) (each : FieldType) (make : Told each → A) (path : Path) → Tells read (told each) make → (d : Data)
    → list_at read path d ≡ as_put (map make) (row_told (listed path each) d)
unfolding list_at default_at
list_row read each make path same d =
    default_row (list_of read) (a_list each) (map make) path [] (array no_items) (list_tells read (told each) make same) refl d

each_itself : {A : Type 0} (tell : Result (List A) Path) → as_put (map (λ x. x)) tell ≡ as_put (λ xs. xs) tell
each_itself (Ok xs) = ap (λ it. Ok it) (map-id xs)
each_itself (Err path) = refl

pub texts_row : (path : Path) (d : Data) → list_at text_of path d ≡ as_put (λ texts. texts) (row_told (listed path any_text) d)
texts_row path d = list_row text_of any_text (λ text. text) path text_tells d ∙ each_itself (row_told (listed path any_text) d)

-- ---- fields one after the other

put_both : {B X Y : Type 0} (whole : X × Y → B) (x : X) (rest : Result Y Path) → as_put (λ y. whole (x, y)) rest ≡ as_put whole (both (Ok x) rest)
put_both whole x (Ok y) = refl
put_both whole x (Err path) = refl

then_by : {A B X Y : Type 0} (next : A → Result B Path) (tell : Result X Path) (rest : Result Y Path) (make : X → A) (whole : X × Y → B)
    → ((x : X) → tell ≡ Ok x → next (make x) ≡ as_put (λ y. whole (x, y)) rest) → (as_put make tell >>= next) ≡ as_put whole (both tell rest)
then_by next (Ok x) rest make whole others = others x refl ∙ put_both whole x rest
then_by next (Err path) rest make whole others = refl

-- a field, and those after it
pub then_row : {A B X Y : Type 0} (read : Result A Path) (next : A → Result B Path) (tell : Result X Path) (rest : Result Y Path) (make : X → A)
    (whole : X × Y → B)
    → read ≡ as_put make tell → ((x : X) → tell ≡ Ok x → next (make x) ≡ as_put (λ y. whole (x, y)) rest) → (read >>= next) ≡ as_put whole (both tell rest)
then_row read next tell rest make whole same others = ap (λ r. r >>= next) same ∙ then_by next tell rest make whole others

-- what is an object, with these fields
pub object_tells : {A : Type 0} (d : Data) (rest : Result A Path) (rows : Rows) (make : RowsTold rows → A) → rest ≡ as_put make (rows_told rows d)
    → (object_of d >>= λ members. rest) ≡ as_put make (told (an_object rows) d)
unfolding object_of
object_tells null rest rows make same = refl
object_tells (boolean b) rest rows make same = refl
object_tells (number n) rest rows make same = refl
object_tells (string text) rest rows make same = refl
object_tells (array ds) rest rows make same = refl
object_tells (object ms) rest rows make same = same
