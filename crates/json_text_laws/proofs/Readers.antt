-- What is read of a value that has texts alone.
use Rattle.std.proofs.Common.{◌≤◌, ◌&&◌, ℕ, ◌+◌, nat_le, Bool, List, [], ◌∷◌, ◌==◌, length, Option, Some}
use Rattle.std.proofs.Common.{None, option_and_then, unwrap_or, is_some, Result, Ok, Err, IfOk, IfSome}
use Rattle.std.proofs.lemmas.Bool.{and_parts, cond_both, leb-true}
use Rattle.std.proofs.lemmas.Result.{IfOk-at_ok}
use Rattle.std.proofs.lemmas.Str.{IsUtf8-nil}
use Rattle.std.specs.Bool.{⊤}
use Rattle.std.specs.Cmp.Lexicographic.{slice_cmp, nat_list_cmp_total}
use Rattle.std.specs.List.{AllByRecursion}
use Rattle.std.specs.List.Sorted.{IsStrictlySortedBy}
use Rattle.std.specs.Map.{lookup}
use Rattle.std.specs.Ordering.{nat_cmp}
use Rattle.std.specs.Str.{IsUtf8}
use Rattle.serde_json.specs.Data.{Data, string, array, object, Items, no_items, item, Members, no_members, member}
use Rattle.serde_json.specs.Find.{get, get_member, as_null, as_number, as_u64, as_str, as_object}
use Rattle.kube_labels.specs.Pairs.{with_pair, value_of}
use Rattle.mlb_base.proofs.Entries.{ascending-insert_entry}
use Rattle.json_fields.specs.Path.{Path, names_of, item_place}
use Rattle.json_fields.specs.Reading.{◌>>=◌, or_itself, unless_null, member_at, where_there, behind, value_at, within}
use Rattle.json_fields.specs.Reading.{some_of, optional_at, or_missing, required_at, default_at, text_of, in_range}
use Rattle.json_fields.specs.Reading.{number_in, items_from, list_of, list_at, pairs_after, labels_of, labels_at, name_at}
use Rattle.json_text_laws.specs.Texts.{HasTexts, ItemsHaveTexts, MembersHaveTexts, AreLabels, TextMapsAreLabels}
use Rattle.json_text_laws.proofs.Values.{chosen, then_if}

-- What is read of a value with texts is such a thing.
abbrev pub Reads : {A : Type 0} → (A → Type 0) → (Data → Result A Path) → Type 0
Reads P read = (d : Data) → HasTexts d → IfOk (read d) P

pub then_ok : {A B : Type 0} (P : A → Type 0) (Q : B → Type 0) (r : Result A Path) (f : A → Result B Path) → IfOk r P → ((x : A) → P x → IfOk (f x) Q)
    → IfOk (r >>= f) Q
then_ok P Q (Ok x) f h each = each x h
then_ok P Q (Err path) f h each = tt

pub any_ok : {A : Type 0} (r : Result A Path) → IfOk r (λ _. ⊤)
any_ok (Ok x) = tt
any_ok (Err path) = tt

-- ---- places

member_texts : (name : List ℕ) (ms : Members) → MembersHaveTexts ms → IfSome (get_member name ms) HasTexts
member_texts name no_members h = tt
member_texts name (member other d ms) h =
    let rest = member_texts name ms h.2 in
    chosen (λ o. IfSome o HasTexts) (slice_cmp nat_cmp name other) (get_member name ms) (Some d) (get_member name ms) rest h.1 rest

pub get_texts : (name : List ℕ) (d : Data) → HasTexts d → IfSome (get name d) HasTexts
get_texts name (object ms) h = member_texts name ms h
get_texts name d h = tt

there_texts : (o : Option Data) → IfSome o HasTexts → IfSome (unless_null o) HasTexts
there_texts None h = tt
there_texts (Some d) h = cond_both (is_some (as_null d)) None (Some d) (λ o. IfSome o HasTexts) (λ _. tt) (λ _. h)

member_at_texts : (path : Path) (name : List ℕ) → Reads (λ o. IfSome o HasTexts) (member_at path name)
unfolding member_at
member_at_texts path name d h =
    cond_both (is_some (as_object d)) (Ok (unless_null (get name d))) (Err path) (λ r. IfOk r (λ o. IfSome o HasTexts))
    (λ _. there_texts (get name d) (get_texts name d h)) (λ _. tt)

pub where_texts : {A : Type 0} (P : A → Type 0) (go : Data → Result (Option A) Path) (o : Option Data) → Reads (λ found. IfSome found P) go → IfSome o HasTexts
    → IfOk (where_there go o) (λ found. IfSome found P)
where_texts P go None reads h = tt
where_texts P go (Some d) reads h = reads d h

behind_texts : (path : Path) (names : List (List ℕ)) → Reads (λ o. IfSome o HasTexts) (behind path names)
unfolding behind
behind_texts path [] d h = h
behind_texts path (name ∷ names) d h =
    then_ok (λ o. IfSome o HasTexts) (λ o. IfSome o HasTexts) (member_at path name d) _ (member_at_texts path name d h)
    (λ o there. where_texts HasTexts (behind path names) o (behind_texts path names) there)

-- ---- fields

placed : {A : Type 0} (P : A → Type 0) (place : Path) (r : Result A Path) → IfOk r P → IfOk (within place r) P
placed P place (Ok x) h = h
placed P place (Err path) h = tt

some_read : {A : Type 0} (P : A → Type 0) (path : Path) (r : Result A Path) → IfOk r P → IfOk (some_of (within path r)) (λ o. IfSome o P)
some_read P path (Ok x) h = h
some_read P path (Err fault) h = tt

pub reads-optional_at : {A : Type 0} (P : A → Type 0) (read : Data → Result A Path) (path : Path) → Reads P read
    → Reads (λ o. IfSome o P) (optional_at read path)
unfolding optional_at
reads-optional_at P read path reads d h =
    then_ok (λ o. IfSome o HasTexts) (λ o. IfSome o P) (value_at path d) _ (behind_texts path (names_of path) d h)
    (λ o there. where_texts P (λ value. some_of (within path (read value))) o (λ value texts. some_read P path (read value) (reads value texts)) there)

missing : {A : Type 0} (P : A → Type 0) (path : Path) (o : Option A) → IfSome o P → IfOk (or_missing path o) P
missing P path (Some x) h = h
missing P path None h = tt

pub reads-required_at : {A : Type 0} (P : A → Type 0) (read : Data → Result A Path) (path : Path) → Reads P read → Reads P (required_at read path)
unfolding required_at
reads-required_at P read path reads d h =
    then_ok (λ o. IfSome o P) P (optional_at read path d) _ (reads-optional_at P read path reads d h) (λ o found. missing P path o found)

or_default : {A : Type 0} (P : A → Type 0) (o : Option A) (x : A) → IfSome o P → P x → P (unwrap_or o x)
or_default P (Some y) x h default = h
or_default P None x h default = default

pub reads-default_at : {A : Type 0} (P : A → Type 0) (read : Data → Result A Path) (path : Path) (x : A) → P x → Reads P read → Reads P (default_at read path x)
unfolding default_at
reads-default_at P read path x default reads d h =
    then_ok (λ o. IfSome o P) P (optional_at read path d) _ (reads-optional_at P read path reads d h) (λ o found. or_default P o x found default)

-- ---- types

or_itself_ok : {A : Type 0} (P : A → Type 0) (o : Option A) → IfSome o P → IfOk (or_itself o) P
or_itself_ok P (Some x) h = h
or_itself_ok P None h = tt

str_texts : (d : Data) → HasTexts d → IfSome (as_str d) IsUtf8
str_texts (string s) h = h
str_texts d h = tt

pub reads-text_of : Reads IsUtf8 text_of
unfolding text_of
reads-text_of d h = or_itself_ok IsUtf8 (as_str d) (str_texts d h)

in_range_if : (low high : ℕ) (o : Option ℕ) → IfSome (option_and_then (in_range low high) o) (λ n. (low ≤ n) × (n ≤ high))
in_range_if low high None = tt
in_range_if low high (Some n) =
    cond_both (nat_le low n && nat_le n high) (Some n) None (λ o. IfSome o (λ m. (low ≤ m) × (m ≤ high)))
    (λ e. let both = and_parts (nat_le low n) (nat_le n high) e in (leb-true low n both.0, leb-true n high both.1)) (λ _. tt)

pub reads-number_in : (low high : ℕ) → Reads (λ n. (low ≤ n) × (n ≤ high)) (number_in low high)
unfolding number_in
reads-number_in low high d h = or_itself_ok (λ n. (low ≤ n) × (n ≤ high)) _ (in_range_if low high (option_and_then as_u64 (as_number d)))

pub reads-name_at : (path : Path) → Reads IsUtf8 (name_at path)
unfolding name_at
reads-name_at path d h =
    then_ok IsUtf8 IsUtf8 (required_at text_of path d) _ (reads-required_at IsUtf8 text_of path reads-text_of d h)
    (λ name text. cond_both (length name == 0) (Err path) (Ok name) (λ r. IfOk r IsUtf8) (λ _. tt) (λ _. text))

items_read : {A : Type 0} (P : A → Type 0) (read : Data → Result A Path) → Reads P read → (index : ℕ) (ds : Items) → ItemsHaveTexts ds
    → IfOk (items_from read index ds) (AllByRecursion P)
unfolding items_from
items_read P read reads index no_items h = tt
items_read P read reads index (item d ds) h =
    then_ok P (AllByRecursion P) (within (item_place index) (read d)) _ (placed P (item_place index) (read d) (reads d h.0))
    (λ x first. then_ok (AllByRecursion P) (AllByRecursion P) (items_from read (index + 1) ds) _ (items_read P read reads (index + 1) ds h.1)
    (λ xs others. (first, others)))

reads-list_of : {A : Type 0} (P : A → Type 0) (read : Data → Result A Path) → Reads P read → Reads (AllByRecursion P) (list_of read)
unfolding list_of
reads-list_of P read reads (array ds) h = items_read P read reads 0 ds h
reads-list_of P read reads d h = tt

pub reads-list_at : {A : Type 0} (P : A → Type 0) (read : Data → Result A Path) (path : Path) → Reads P read → Reads (AllByRecursion P) (list_at read path)
unfolding list_at
reads-list_at P read path reads d h =
    then_ok (λ o. IfSome o (AllByRecursion P)) (AllByRecursion P) (optional_at (list_of read) path d)
    _ (reads-optional_at (AllByRecursion P) (list_of read) path (reads-list_of P read reads) d h)
    (λ o found. or_default (AllByRecursion P) o [] found tt)

-- ---- text maps

abbrev IsPair : List ℕ × List ℕ → Type 0
IsPair p = IsUtf8 p.0 × IsUtf8 p.1

with_texts : (pairs : List (List ℕ × List ℕ)) (name value : List ℕ) → IsUtf8 name → IsUtf8 value → AllByRecursion IsPair pairs
    → AllByRecursion IsPair (with_pair name value pairs)
with_texts [] name value n v all = ((n, v), tt)
with_texts (p ∷ pairs) name value n v all =
    chosen (AllByRecursion IsPair) (slice_cmp nat_cmp name p.0) _ _ _ ((n, v), all) ((all.0.0, v), all.1) (all.0, with_texts pairs name value n v all.1)

with_labels : (pairs : List (List ℕ × List ℕ)) (name value : List ℕ) → IsUtf8 name → IsUtf8 value → AreLabels pairs → AreLabels (with_pair name value pairs)
with_labels pairs name value n v h =
    record { ascending = ascending-insert_entry nat_list_cmp_total pairs name value h.ascending; texts = with_texts pairs name value n v h.texts }

pub no_labels : AreLabels []
unfolding IsStrictlySortedBy
no_labels = record { ascending = tt; texts = tt }

pairs_read : (pairs : List (List ℕ × List ℕ)) (ms : Members) → AreLabels pairs → MembersHaveTexts ms → IfSome (pairs_after pairs ms) AreLabels
unfolding pairs_after
pairs_read pairs no_members h all = h
pairs_read pairs (member name d ms) h all =
    cond_both (is_some (as_null d)) (pairs_after pairs ms) _ (λ o. IfSome o AreLabels) (λ _. pairs_read pairs ms h all.2)
    (λ _. then_if IsUtf8 AreLabels _ (as_str d) (λ text u. pairs_read (with_pair name text pairs) ms (with_labels pairs name text all.0 u h) all.2)
    (str_texts d all.1))

reads-labels_of : Reads AreLabels labels_of
unfolding labels_of
reads-labels_of (object ms) h = or_itself_ok AreLabels (pairs_after [] ms) (pairs_read [] ms no_labels h)
reads-labels_of d h = tt

pub reads-labels_at : (path : Path) → Reads AreLabels (labels_at path)
unfolding labels_at
reads-labels_at path d h =
    then_ok (λ o. IfSome o AreLabels) AreLabels (optional_at labels_of path d) _ (reads-optional_at AreLabels labels_of path reads-labels_of d h)
    (λ o found. or_default AreLabels o [] found no_labels)

looked_up : (test : List ℕ → Bool) (pairs : List (List ℕ × List ℕ)) → AllByRecursion IsPair pairs → IfSome (lookup test pairs) IsUtf8
looked_up test [] h = tt
looked_up test (p ∷ pairs) h = cond_both (test p.0) (Some p.1) (lookup test pairs) (λ o. IfSome o IsUtf8) (λ _. h.0.1) (λ _. looked_up test pairs h.1)

-- the value of a name, or the empty text
pub value_text : (name : List ℕ) (pairs : List (List ℕ × List ℕ)) → AreLabels pairs → IsUtf8 (unwrap_or (value_of name pairs) [])
value_text name pairs h = or_default IsUtf8 (value_of name pairs) [] (looked_up _ pairs h.texts) IsUtf8-nil

pub text_maps_are_labels : TextMapsAreLabels
text_maps_are_labels path d pairs h e = IfOk-at_ok AreLabels e (reads-labels_at path d h)
