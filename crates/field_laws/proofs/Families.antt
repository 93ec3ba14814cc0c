-- The families that are read of a service are those that its row tells.
use Rattle.std.proofs.Common.{◌≡◌, ◌⊎◌, ℕ, ◌+◌, List, [], ◌∷◌, Bool, true, false, cond, ◌||◌, map, Option, Some, None}
use Rattle.std.proofs.Common.{option_map, option_and_then, Result, Ok, Err, refl, sym, ap, subst, ◌∙◌, inl, inr, bytes_eq, codes}
use Rattle.std.specs.Bool.{⊤}
use Rattle.std.proofs.lemmas.Slice.Eq.{bytes_eq-Decides}
use Rattle.serde_json.specs.Data.{Data, null, boolean, number, string, array, object, Items, no_items, item}
use Rattle.json_fields.specs.Path.{Path, names_of, item_place}
use Rattle.json_fields.specs.Reading.{◌>>=◌}
use Rattle.ip_ranges.specs.declared.family.Family.{Family}
use Rattle.ip_ranges.specs.declared.family.Family.TheVariants.{V4, V6}
use Rattle.kube_events.specs.Named.{family_named, family_of}
use Rattle.kube_events.specs.ServiceFields.{families_from, families_at}
use Rattle.field_laws.specs.Standing.{Standing, nothing, astray, here, look}
use Rattle.field_laws.specs.FieldTypes.{one_text, two_texts, a_list, defaulted}
use Rattle.field_laws.specs.Told.{text_in, is_among, if_among, two_distinct, or_fault, as_put, at_place, both}
use Rattle.field_laws.specs.Told.{joined_list, each_told, list_told, and_then, standing_tells, told, row_told}
use Rattle.field_laws.specs.Tables.{families}
use Rattle.field_laws.specs.Events.{family_with, families_with}
use Rattle.field_laws.proofs.Places.{Tells}
use Rattle.field_laws.proofs.Types.{word_tells, list_row}

-- ---- one family

family_by : (a b : Bool) (text : List ℕ) (family : Family) → family ≡ cond a V4 V6
    → cond a (Some V4) (cond b (Some V6) None) ≡ option_map (λ it. family) (cond (a || (b || false)) (Some text) None)
family_by true b text family is = rw is refl
family_by false true text family is = rw is refl
family_by false false text family is = refl

always : (found : Bool) (text : List ℕ)
    → option_map family_with (cond found (Some text) None) ≡ option_map (λ it. family_with text) (cond found (Some text) None)
always true text = refl
always false text = refl

family_names : (text : List ℕ) → family_named text ≡ option_map family_with (if_among families text)
family_names text =
    family_by (bytes_eq text (codes "IPv4")) (bytes_eq text (codes "IPv6")) text (family_with text) refl ∙ sym (always (is_among families text) text)

family_tells : Tells family_of (told (one_text families)) family_with
unfolding family_of
family_tells d = word_tells family_named families family_with family_names d

-- ---- what is told is among the texts

AreAmong : List (List ℕ) → Type 0
AreAmong [] = ⊤
AreAmong (text ∷ texts) = (is_among families text ≡ true) × AreAmong texts

among_by : (found : Bool) (text other : List ℕ) → is_among families text ≡ found → or_fault (cond found (Some text) None) ≡ Ok other
    → is_among families other ≡ true
among_by true text other is e = let same : text ≡ other = cc in subst (λ it. is_among families it ≡ true) same is
among_by false text other is e = absurd cc

word_among : (found : Option (List ℕ)) (text : List ℕ) → or_fault (option_and_then (if_among families) found) ≡ Ok text → is_among families text ≡ true
word_among (Some other) text e = among_by (is_among families other) other text refl e
word_among None text e = absurd cc

joined_there : (place : Path) (first : Result (List ℕ) Path) (others : Result (List (List ℕ)) Path) (texts : List (List ℕ))
    → joined_list (both (at_place place first) others) ≡ Ok texts
    → (text : List ℕ) × (rest : List (List ℕ)) × (first ≡ Ok text) × (others ≡ Ok rest) × (text ∷ rest ≡ texts)
joined_there place (Ok text) (Ok rest) texts e = (text, rest, refl, refl, cc)
joined_there place (Ok text) (Err path) texts e = absurd cc
joined_there place (Err path) others texts e = absurd cc

items_among : (index : ℕ) (ds : Items) (texts : List (List ℕ)) → each_told (told (one_text families)) index ds ≡ Ok texts → AreAmong texts
unfolding AreAmong
items_among index no_items texts e = let none : [] ≡ texts = cc in subst AreAmong none tt
items_among index (item d ds) texts e =
    let there = joined_there (item_place index) (told (one_text families) d) (each_told (told (one_text families)) (index + 1) ds) texts e in
    subst AreAmong there.4 (word_among (text_in d) there.0 there.2, items_among (index + 1) ds there.1 there.3)

list_among : (d : Data) (texts : List (List ℕ)) → list_told (told (one_text families)) d ≡ Ok texts → AreAmong texts
list_among null texts e = absurd cc
list_among (boolean b) texts e = absurd cc
list_among (number n) texts e = absurd cc
list_among (string text) texts e = absurd cc
list_among (array ds) texts e = items_among 0 ds texts e
list_among (object ms) texts e = absurd cc

either_by : (a b : Bool) (text : List ℕ) → bytes_eq text (codes "IPv4") ≡ a → bytes_eq text (codes "IPv6") ≡ b → (a || (b || false)) ≡ true
    → (text ≡ codes "IPv4") ⊎ (text ≡ codes "IPv6")
either_by true b text first second e = inl ((bytes_eq-Decides text (codes "IPv4")).0 first)
either_by false true text first second e = inr ((bytes_eq-Decides text (codes "IPv6")).0 second)
either_by false false text first second e = absurd cc

either_word : (text : List ℕ) → is_among families text ≡ true → (text ≡ codes "IPv4") ⊎ (text ≡ codes "IPv6")
either_word text e = either_by (bytes_eq text (codes "IPv4")) (bytes_eq text (codes "IPv6")) text refl refl e

-- ---- as they are told

abbrev told_so : Path → List (List ℕ) → Result (List Family) Path
told_so path texts = as_put families_with (as_put (λ x. x) (at_place path (or_fault (two_distinct texts))))

one_by : (path : Path) (text : List ℕ) → (text ≡ codes "IPv4") ⊎ (text ≡ codes "IPv6")
    → families_from path (map family_with (text ∷ [])) ≡ told_so path (text ∷ [])
one_by path text (inl is) = rw is refl
one_by path text (inr is) = rw is refl

two_by : (path : Path) (one other : List ℕ) → (one ≡ codes "IPv4") ⊎ (one ≡ codes "IPv6") → (other ≡ codes "IPv4") ⊎ (other ≡ codes "IPv6")
    → families_from path (map family_with (one ∷ other ∷ [])) ≡ told_so path (one ∷ other ∷ [])
two_by path one other (inl first) (inl second) = rw (first, second) refl
two_by path one other (inl first) (inr second) = rw (first, second) refl
two_by path one other (inr first) (inl second) = rw (first, second) refl
two_by path one other (inr first) (inr second) = rw (first, second) refl

three_by : (path : Path) (one other third : Family) (rest : List Family) → families_from path (one ∷ other ∷ third ∷ rest) ≡ Err path
three_by path V4 V4 third rest = refl
three_by path V4 V6 third rest = refl
three_by path V6 V4 third rest = refl
three_by path V6 V6 third rest = refl

texts_by : (path : Path) (texts : List (List ℕ)) → AreAmong texts → families_from path (map family_with texts) ≡ told_so path texts
unfolding AreAmong
texts_by path [] are = refl
texts_by path (one ∷ []) are = one_by path one (either_word one are.0)
texts_by path (one ∷ other ∷ []) are = two_by path one other (either_word one are.0) (either_word other are.1.0)
texts_by path (one ∷ other ∷ third ∷ texts) are = three_by path (family_with one) (family_with other) (family_with third) (map family_with texts)

list_by : (path : Path) (tell : Result (List (List ℕ)) Path) → ((texts : List (List ℕ)) → tell ≡ Ok texts → AreAmong texts)
    → (as_put (map family_with) (as_put (λ x. x) (at_place path tell)) >>= families_from path)
    ≡ as_put families_with (as_put (λ x. x) (at_place path (and_then two_distinct tell)))
list_by path (Ok texts) are = texts_by path texts (are texts refl)
list_by path (Err rest) are = refl

standing_by : (path : Path) (at : Standing)
    → (as_put (map family_with) (standing_tells path (λ x. x) (Ok []) (told (a_list (one_text families))) at) >>= families_from path)
    ≡ as_put families_with (standing_tells path (λ x. x) (Ok (codes "IPv4" ∷ [])) (told (two_texts families)) at)
standing_by path nothing = refl
standing_by path astray = refl
standing_by path (here d) = list_by path (list_told (told (one_text families)) d) (list_among d)

pub families_row : (path : Path) (d : Data)
    → families_at path d ≡ as_put families_with (row_told (defaulted path (two_texts families) (array (item (string (codes "IPv4")) no_items))) d)
unfolding families_at
families_row path d =
    ap (λ r. r >>= families_from path) (list_row family_of (one_text families) family_with path family_tells d)
    ∙ standing_by path (look (names_of path) d)
