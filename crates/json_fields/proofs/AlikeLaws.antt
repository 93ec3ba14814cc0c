-- Fields of values that are alike are read the same.
use Rattle.std.proofs.Common.{◌≡◌, ℕ, ◌+◌, List, [], Bool, true, false, Option, Some, None, Result, Ok, Err}
use Rattle.std.proofs.Common.{is_some, cond, refl, sym, ap, ◌∙◌, option_map, option_and_then}
use Rattle.serde_json.specs.Data.{Data, Items, no_items, item, Members, no_members, member}
use Rattle.serde_json.specs.Find.{as_null, as_str, as_array, as_object}
use Rattle.kube_labels.specs.Pairs.{with_pair}
use Rattle.json_fields.specs.Path.{Path}
use Rattle.json_fields.specs.Reading.{◌>>=◌, within, where_there, some_of, value_at, optional_at, default_at, required_at, list_at, labels_at}
use Rattle.json_fields.specs.Reading.{tells_at, name_at, list_of, items_if, items_from, labels_of, pairs_after, text_of, or_itself}
use Rattle.json_fields.specs.Alike.{Same, FoundAlike, At, ItemsAlike, ListsAlike, Each, members_not_null, SameMap}

found_same : {A : Type 0} (Like : Data → Data → Type 0) (go : Data → Result (Option A) Path) → ((d e : Data) → Like d e → go d ≡ go e)
    → (found other : Result (Option Data) Path) → FoundAlike Like found other → (found >>= where_there go) ≡ (other >>= where_there go)
found_same Like go same (Ok (Some d)) (Ok (Some e)) alike = same d e alike
found_same Like go same (Ok (Some d)) (Ok None) alike = absurd alike
found_same Like go same (Ok (Some d)) (Err path) alike = absurd alike
found_same Like go same (Ok None) other alike = rw alike refl
found_same Like go same (Err path) other alike = rw alike refl

pub optional_alike : {A : Type 0} (Like : Data → Data → Type 0) (read : Data → Result A Path) → ((d e : Data) → Like d e → read d ≡ read e)
    → (path : Path) (d e : Data) → At path Like d e → optional_at read path d ≡ optional_at read path e
unfolding optional_at
optional_alike Like read same path d e alike =
    found_same Like (λ value. some_of (within path (read value))) (λ x y like. ap (λ (found : Result _ Path). some_of (within path found)) (same x y like))
    (value_at path d) (value_at path e) alike

pub default_alike : {A : Type 0} (Like : Data → Data → Type 0) (read : Data → Result A Path) → ((d e : Data) → Like d e → read d ≡ read e)
    → (path : Path) (default : A) (d e : Data) → At path Like d e → default_at read path default d ≡ default_at read path default e
unfolding default_at
default_alike Like read same path default d e alike = rw (optional_alike Like read same path d e alike) refl

pub required_alike : {A : Type 0} (Like : Data → Data → Type 0) (read : Data → Result A Path) → ((d e : Data) → Like d e → read d ≡ read e)
    → (path : Path) (d e : Data) → At path Like d e → required_at read path d ≡ required_at read path e
unfolding required_at
required_alike Like read same path d e alike = rw (optional_alike Like read same path d e alike) refl

-- ---- values that are the same

pub same_read : {A : Type 0} (read : Data → Result A Path) (d e : Data) → Same d e → read d ≡ read e
same_read read d e same = ap read same

pub name_same : (path : Path) (d e : Data) → At path Same d e → name_at path d ≡ name_at path e
unfolding name_at
name_same path d e alike = rw (required_alike Same text_of (same_read text_of) path d e alike) refl

pub tells_same : (path : Path) (wanted : List ℕ) (d e : Data) → At path Same d e → tells_at path wanted d ≡ tells_at path wanted e
unfolding tells_at
tells_same path wanted d e alike = rw (optional_alike Same text_of (same_read text_of) path d e alike) refl

-- ---- lists

items_alike : {A : Type 0} (Like : Data → Data → Type 0) (read : Data → Result A Path) → ((d e : Data) → Like d e → read d ≡ read e)
    → (index : ℕ) (ds es : Items) → ItemsAlike Like ds es → items_from read index ds ≡ items_from read index es
unfolding items_from
items_alike Like read same index no_items no_items alike = refl
items_alike Like read same index no_items (item e es) alike = absurd alike
items_alike Like read same index (item d ds) no_items alike = absurd alike
items_alike Like read same index (item d ds) (item e es) alike = rw (same d e alike.0, items_alike Like read same (index + 1) ds es alike.1) refl

items_if_alike : {A : Type 0} (Like : Data → Data → Type 0) (read : Data → Result A Path) → ((d e : Data) → Like d e → read d ≡ read e)
    → (ds es : Option Items) → ListsAlike Like ds es → items_if read ds ≡ items_if read es
items_if_alike Like read same (Some ds) (Some es) alike = items_alike Like read same 0 ds es alike
items_if_alike Like read same None None alike = refl
items_if_alike Like read same (Some ds) None alike = absurd alike
items_if_alike Like read same None (Some es) alike = absurd alike

each_read : {A : Type 0} (Like : Data → Data → Type 0) (read : Data → Result A Path) → ((d e : Data) → Like d e → read d ≡ read e)
    → (d e : Data) → Each Like d e → list_of read d ≡ list_of read e
unfolding list_of
each_read Like read same d e alike = items_if_alike Like read same (as_array d) (as_array e) alike

pub list_alike : {A : Type 0} (Like : Data → Data → Type 0) (read : Data → Result A Path) → ((d e : Data) → Like d e → read d ≡ read e)
    → (path : Path) (d e : Data) → At path (Each Like) d e → list_at read path d ≡ list_at read path e
unfolding list_at
list_alike Like read same path d e alike = rw (optional_alike (Each Like) (list_of read) (each_read Like read same) path d e alike) refl

pub list_same : {A : Type 0} (read : Data → Result A Path) (path : Path) (d e : Data) → At path Same d e → list_at read path d ≡ list_at read path e
unfolding list_at
list_same read path d e alike = rw (optional_alike Same (list_of read) (same_read (list_of read)) path d e alike) refl

-- ---- text maps

null_passed : (b : Bool) (name : List ℕ) (d : Data) (ms : Members) (pairs : List (List ℕ × List ℕ)) → is_some (as_null d) ≡ b
    → ((pairs : List (List ℕ × List ℕ)) → pairs_after pairs (members_not_null ms) ≡ pairs_after pairs ms)
    → pairs_after pairs (cond b (members_not_null ms) (member name d (members_not_null ms))) ≡ pairs_after pairs (member name d ms)
unfolding pairs_after
null_passed true name d ms pairs is others = rw is (others pairs)
null_passed false name d ms pairs is others =
    rw (is, ap (λ (next : List ℕ → Option (List (List ℕ × List ℕ))). option_and_then next (as_str d)) (λ i text. others (with_pair name text pairs) i)) refl

nulls_passed : (ms : Members) (pairs : List (List ℕ × List ℕ)) → pairs_after pairs (members_not_null ms) ≡ pairs_after pairs ms
nulls_passed no_members pairs = refl
nulls_passed (member name d ms) pairs = null_passed (is_some (as_null d)) name d ms pairs refl (nulls_passed ms)

of_map : (found : Option Members) → option_and_then (pairs_after []) (option_map members_not_null found) ≡ option_and_then (pairs_after []) found
of_map None = refl
of_map (Some ms) = nulls_passed ms []

map_read : (d e : Data) → SameMap d e → labels_of d ≡ labels_of e
unfolding labels_of
map_read d e same =
    ap (λ (pairs : Option (List (List ℕ × List ℕ))). or_itself pairs)
    (sym (of_map (as_object d)) ∙ ap (option_and_then (pairs_after [])) same ∙ of_map (as_object e))

pub labels_alike : (path : Path) (d e : Data) → At path SameMap d e → labels_at path d ≡ labels_at path e
unfolding labels_at
labels_alike path d e alike = rw (optional_alike SameMap labels_of map_read path d e alike) refl
