-- When a field of a type is read, and when a list.
use Rattle.std.proofs.Common.{◌≡◌, ◌⊎◌, ℕ, ◌+◌, List, [], ◌∷◌, Option, Some, None, unwrap_or, Result, Ok, Err, refl, sym, ap, ◌∙◌, inl, inr}
use Rattle.serde_json.specs.Data.{Data, null, boolean, number, string, array, object, Items, no_items, item}
use Rattle.json_fields.specs.Path.{Path, names_of, joined, item_place}
use Rattle.json_fields.specs.Reading.{◌>>=◌, where_there, some_of, within, or_missing, optional_at, required_at, default_at, items_from, list_of}
use Rattle.field_laws.specs.Standing.{Standing, nothing, astray, here, look}
use Rattle.field_laws.specs.FieldLaws.{IsAbsent, IsThere, IsFaulty, FieldsAreRead, AreRead, IsFirstFault, IsNoList, ListsAreRead}
use Rattle.field_laws.proofs.Places.{found_as, found_as_it_stands}

-- ---- by what stands there

abbrev by_standing : {A : Type 0} → (Data → Result A Path) → Path → Standing → Result (Option A) Path
by_standing read path nothing = Ok None
by_standing read path astray = Err path
by_standing read path (here d) = some_of (within path (read d))

stands : {A : Type 0} (read : Data → Result A Path) (path : Path) (at : Standing)
    → (found_as path at >>= where_there (λ d. some_of (within path (read d)))) ≡ by_standing read path at
stands read path nothing = refl
stands read path astray = refl
stands read path (here d) = refl

optional_stands : {A : Type 0} (read : Data → Result A Path) (path : Path) (d : Data) → optional_at read path d ≡ by_standing read path (look (names_of path) d)
unfolding optional_at
optional_stands read path d = ap (λ found. found >>= where_there (λ e. some_of (within path (read e)))) (found_as_it_stands path (names_of path) d)
    ∙ stands read path (look (names_of path) d)

-- ---- what is there

abbrev pub There : {A : Type 0} → (Data → Result A Path) → Standing → A → Type 0
There read at x = (value : Data) × (at ≡ here value) × (read value ≡ Ok x)

abbrev pub Faulty : {A : Type 0} → (Data → Result A Path) → Path → Standing → Path → Type 0
Faulty read path at fault =
    (at ≡ astray) × (path ≡ fault) ⊎ ((value : Data) × (rest : Path) × (at ≡ here value) × (read value ≡ Err rest) × (joined path rest ≡ fault))

some_there : {A : Type 0} (path : Path) (r : Result A Path) (x : A) → some_of (within path r) ≡ Ok (Some x) → r ≡ Ok x
some_there path (Ok y) x e = let same : y ≡ x = cc in ap (λ it. Ok it) same
some_there path (Err rest) x e = absurd cc

never_none : {A : Type 0} (path : Path) (r : Result A Path) → some_of (within path r) ≡ Ok None → ⊥
never_none path (Ok y) e = absurd cc
never_none path (Err rest) e = absurd cc

fault_there : {A : Type 0} (path : Path) (r : Result A Path) (fault : Path) → some_of (within path r) ≡ Err fault
    → (rest : Path) × (r ≡ Err rest) × (joined path rest ≡ fault)
fault_there path (Ok y) fault e = absurd cc
fault_there path (Err rest) fault e = (rest, refl, cc)

there_from : {A : Type 0} (read : Data → Result A Path) (path : Path) (at : Standing) (x : A) → by_standing read path at ≡ Ok (Some x) → There read at x
there_from read path nothing x e = absurd cc
there_from read path astray x e = absurd cc
there_from read path (here d) x e = (d, refl, some_there path (read d) x e)

there_to : {A : Type 0} (read : Data → Result A Path) (path : Path) (at : Standing) (x : A) → There read at x → by_standing read path at ≡ Ok (Some x)
there_to read path at x there = rw (there.1, there.2) refl

absent_from : {A : Type 0} (read : Data → Result A Path) (path : Path) (at : Standing) → by_standing read path at ≡ Ok None → at ≡ nothing
absent_from read path nothing e = refl
absent_from read path astray e = absurd cc
absent_from read path (here d) e = absurd (never_none path (read d) e)

faulty_from : {A : Type 0} (read : Data → Result A Path) (path : Path) (at : Standing) (fault : Path) → by_standing read path at ≡ Err fault
    → Faulty read path at fault
faulty_from read path nothing fault e = absurd cc
faulty_from read path astray fault e = inl (refl, cc)
faulty_from read path (here d) fault e = let there = fault_there path (read d) fault e in inr (d, there.0, refl, there.1, there.2)

faulty_to : {A : Type 0} (read : Data → Result A Path) (path : Path) (at : Standing) (fault : Path) → Faulty read path at fault
    → by_standing read path at ≡ Err fault
faulty_to read path at fault (inl is) = rw is.0 (ap (λ it. Err it) is.1)
faulty_to read path at fault (inr is) = rw (is.2, is.3) (ap (λ it. Err it) is.4)

-- ---- required fields, and such with a default

required_ok : {A : Type 0} (path : Path) (found : Result (Option A) Path) (x : A) → (found >>= or_missing path) ≡ Ok x → found ≡ Ok (Some x)
required_ok path (Ok (Some y)) x e = let same : y ≡ x = cc in ap (λ it. Ok (Some it)) same
required_ok path (Ok None) x e = absurd cc
required_ok path (Err other) x e = absurd cc

required_err : {A : Type 0} (path : Path) (found : Result (Option A) Path) (fault : Path) → (found >>= or_missing path) ≡ Err fault
    → (found ≡ Ok None) × (path ≡ fault) ⊎ (found ≡ Err fault)
required_err path (Ok (Some y)) fault e = absurd cc
required_err path (Ok None) fault e = inl (refl, cc)
required_err path (Err other) fault e = let same : other ≡ fault = cc in inr (ap (λ it. Err it) same)

default_ok : {A : Type 0} (default : A) (found : Result (Option A) Path) (x : A) → (found >>= λ it. Ok (unwrap_or it default)) ≡ Ok x
    → (found ≡ Ok None) × (default ≡ x) ⊎ (found ≡ Ok (Some x))
default_ok default (Ok (Some y)) x e = let same : y ≡ x = cc in inr (ap (λ it. Ok (Some it)) same)
default_ok default (Ok None) x e = inl (refl, cc)
default_ok default (Err other) x e = absurd cc

default_err : {A : Type 0} (default : A) (found : Result (Option A) Path) (fault : Path) → (found >>= λ it. Ok (unwrap_or it default)) ≡ Err fault
    → found ≡ Err fault
default_err default (Ok (Some y)) fault e = absurd cc
default_err default (Ok None) fault e = absurd cc
default_err default (Err other) fault e = let same : other ≡ fault = cc in ap (λ it. Err it) same

absent_to : {A : Type 0} (read : Data → Result A Path) (path : Path) (at : Standing) → at ≡ nothing → by_standing read path at ≡ Ok None
absent_to read path at is = rw is refl

required_fault : {A : Type 0} (read : Data → Result A Path) (path : Path) (d : Data) (at : Path)
    → (optional_at read path d ≡ Ok None) × (path ≡ at) ⊎ (optional_at read path d ≡ Err at)
    → IsAbsent path d × (path ≡ at) ⊎ IsFaulty read path d at
required_fault read path d at (inl none) = inl (absent_from read path (look (names_of path) d) (sym (optional_stands read path d) ∙ none.0), none.1)
required_fault read path d at (inr fault) = inr (faulty_from read path (look (names_of path) d) at (sym (optional_stands read path d) ∙ fault))

is_required_fault : {A : Type 0} (read : Data → Result A Path) (path : Path) (d : Data) (at : Path) → IsAbsent path d × (path ≡ at) ⊎ IsFaulty read path d at
    → required_at read path d ≡ Err at
unfolding required_at
is_required_fault read path d at (inl none) = rw (optional_stands read path d ∙ absent_to read path (look (names_of path) d) none.0) (ap (λ it. Err it) none.1)
is_required_fault read path d at (inr fault) = rw (optional_stands read path d ∙ faulty_to read path (look (names_of path) d) at fault) refl

default_read : {A : Type 0} (read : Data → Result A Path) (path : Path) (default : A) (d : Data) (x : A)
    → (optional_at read path d ≡ Ok None) × (default ≡ x) ⊎ (optional_at read path d ≡ Ok (Some x))
    → IsAbsent path d × (default ≡ x) ⊎ IsThere read path d x
default_read read path default d x (inl none) = inl (absent_from read path (look (names_of path) d) (sym (optional_stands read path d) ∙ none.0), none.1)
default_read read path default d x (inr there) = inr (there_from read path (look (names_of path) d) x (sym (optional_stands read path d) ∙ there))

is_default_read : {A : Type 0} (read : Data → Result A Path) (path : Path) (default : A) (d : Data) (x : A)
    → IsAbsent path d × (default ≡ x) ⊎ IsThere read path d x → default_at read path default d ≡ Ok x
unfolding default_at
is_default_read read path default d x (inl none) =
    rw (optional_stands read path d ∙ absent_to read path (look (names_of path) d) none.0) (ap (λ it. Ok it) none.1)
is_default_read read path default d x (inr there) = rw (optional_stands read path d ∙ there_to read path (look (names_of path) d) x there) refl

pub fields_are_read : {A : Type 0} (read : Data → Result A Path) → FieldsAreRead read
unfolding required_at default_at
fields_are_read read = record {
  required = λ path d x. (
    (λ e. there_from read path (look (names_of path) d) x (sym (optional_stands read path d) ∙ required_ok path (optional_at read path d) x e)),
    (λ there. rw (optional_stands read path d ∙ there_to read path (look (names_of path) d) x there) refl),
  );
  required_refused = λ path d at. (
    (λ e. required_fault read path d at (required_err path (optional_at read path d) at e)),
    (λ fault. is_required_fault read path d at fault),
  );
  there = λ path d x. (
    (λ e. there_from read path (look (names_of path) d) x (sym (optional_stands read path d) ∙ e)),
    (λ there. optional_stands read path d ∙ there_to read path (look (names_of path) d) x there),
  );
  absent = λ path d. (
    (λ e. absent_from read path (look (names_of path) d) (sym (optional_stands read path d) ∙ e)),
    (λ none. optional_stands read path d ∙ absent_to read path (look (names_of path) d) none),
  );
  optional_refused = λ path d at. (
    (λ e. faulty_from read path (look (names_of path) d) at (sym (optional_stands read path d) ∙ e)),
    (λ fault. optional_stands read path d ∙ faulty_to read path (look (names_of path) d) at fault),
  );
  default = λ path default d x. (
    (λ e. default_read read path default d x (default_ok default (optional_at read path d) x e)),
    (λ there. is_default_read read path default d x there),
  );
  default_refused = λ path default d at. (
    (λ e. faulty_from read path (look (names_of path) d) at (sym (optional_stands read path d) ∙ default_err default (optional_at read path d) at e)),
    (λ fault. rw (optional_stands read path d ∙ faulty_to read path (look (names_of path) d) at fault) refl),
  );
}

-- ---- lists

abbrev one_more : {A : Type 0} → Path → Result A Path → Result (List A) Path → Result (List A) Path
one_more place first others = within place first >>= λ x. others >>= λ xs. Ok (x ∷ xs)

more_ok : {A : Type 0} (place : Path) (first : Result A Path) (others : Result (List A) Path) (xs : List A) → one_more place first others ≡ Ok xs
    → (x : A) × (rest : List A) × (first ≡ Ok x) × (others ≡ Ok rest) × (x ∷ rest ≡ xs)
more_ok place (Ok x) (Ok rest) xs e = (x, rest, refl, refl, cc)
more_ok place (Ok x) (Err path) xs e = absurd cc
more_ok place (Err path) others xs e = absurd cc

more_err : {A : Type 0} (place : Path) (first : Result A Path) (others : Result (List A) Path) (at : Path) → one_more place first others ≡ Err at
    → ((rest : Path) × (first ≡ Err rest) × (joined place rest ≡ at)) ⊎ ((x : A) × (first ≡ Ok x) × (others ≡ Err at))
more_err place (Ok x) (Ok rest) at e = absurd cc
more_err place (Ok x) (Err path) at e = let same : path ≡ at = cc in inr (x, refl, ap (λ it. Err it) same)
more_err place (Err path) others at e = inl (path, refl, cc)

items_ok : {A : Type 0} (read : Data → Result A Path) (index : ℕ) (ds : Items) (xs : List A) → items_from read index ds ≡ Ok xs → AreRead read ds xs
unfolding items_from
items_ok read index no_items xs e = cc
items_ok read index (item d ds) xs e =
    let more = more_ok (item_place index) (read d) (items_from read (index + 1) ds) xs e in
    (more.0, more.1, more.2, items_ok read (index + 1) ds more.1 more.3, more.4)

ok_items : {A : Type 0} (read : Data → Result A Path) (index : ℕ) (ds : Items) (xs : List A) → AreRead read ds xs → items_from read index ds ≡ Ok xs
unfolding items_from
ok_items read index no_items xs are = ap (λ it. Ok it) are
ok_items read index (item d ds) xs are = rw (are.2, ok_items read (index + 1) ds are.1 are.3) (ap (λ it. Ok it) are.4)

first_from : {A : Type 0} (read : Data → Result A Path) (index : ℕ) (d : Data) (ds : Items) (at : Path)
    → (items_from read (index + 1) ds ≡ Err at → IsFirstFault read (index + 1) ds at)
    → ((rest : Path) × (read d ≡ Err rest) × (joined (item_place index) rest ≡ at)) ⊎ ((x : A) × (read d ≡ Ok x) × (items_from read (index + 1) ds ≡ Err at))
    → IsFirstFault read index (item d ds) at
first_from read index d ds at later (inl fault) = inl fault
first_from read index d ds at later (inr more) = inr (more.0, more.1, later more.2)

items_err : {A : Type 0} (read : Data → Result A Path) (index : ℕ) (ds : Items) (at : Path) → items_from read index ds ≡ Err at → IsFirstFault read index ds at
unfolding items_from
items_err read index no_items at e = absurd cc
items_err read index (item d ds) at e =
    first_from read index d ds at (items_err read (index + 1) ds at) (more_err (item_place index) (read d) (items_from read (index + 1) ds) at e)

err_items : {A : Type 0} (read : Data → Result A Path) (index : ℕ) (ds : Items) (at : Path) → IsFirstFault read index ds at → items_from read index ds ≡ Err at
unfolding items_from
err_items read index no_items at fault = absurd fault
err_items read index (item d ds) at (inl fault) = rw fault.1 (ap (λ it. Err it) fault.2)
err_items read index (item d ds) at (inr more) = rw (more.1, err_items read (index + 1) ds at more.2) refl

list_ok : {A : Type 0} (read : Data → Result A Path) (d : Data) (xs : List A) → list_of read d ≡ Ok xs → (ds : Items) × (d ≡ array ds) × AreRead read ds xs
unfolding list_of
list_ok read null xs e = absurd cc
list_ok read (boolean b) xs e = absurd cc
list_ok read (number n) xs e = absurd cc
list_ok read (string text) xs e = absurd cc
list_ok read (array ds) xs e = (ds, refl, items_ok read 0 ds xs e)
list_ok read (object ms) xs e = absurd cc

list_err : {A : Type 0} (read : Data → Result A Path) (d : Data) (at : Path) → list_of read d ≡ Err at
    → IsNoList d × ([] ≡ at) ⊎ ((ds : Items) × (d ≡ array ds) × IsFirstFault read 0 ds at)
unfolding list_of
list_err read null at e = inl (λ ds is. absurd cc, cc)
list_err read (boolean b) at e = inl (λ ds is. absurd cc, cc)
list_err read (number n) at e = inl (λ ds is. absurd cc, cc)
list_err read (string text) at e = inl (λ ds is. absurd cc, cc)
list_err read (array ds) at e = inr (ds, refl, items_err read 0 ds at e)
list_err read (object ms) at e = inl (λ ds is. absurd cc, cc)

no_list : {A : Type 0} (read : Data → Result A Path) (d : Data) → IsNoList d → list_of read d ≡ Err []
unfolding list_of
no_list read null none = refl
no_list read (boolean b) none = refl
no_list read (number n) none = refl
no_list read (string text) none = refl
no_list read (array ds) none = absurd (none ds refl)
no_list read (object ms) none = refl

err_list : {A : Type 0} (read : Data → Result A Path) (d : Data) (at : Path)
    → IsNoList d × ([] ≡ at) ⊎ ((ds : Items) × (d ≡ array ds) × IsFirstFault read 0 ds at) → list_of read d ≡ Err at
unfolding list_of
err_list read d at (inl none) = no_list read d none.0 ∙ ap (λ it. Err it) none.1
err_list read d at (inr fault) = rw fault.1 (err_items read 0 fault.0 at fault.2)

pub lists_are_read : {A : Type 0} (read : Data → Result A Path) → ListsAreRead read
unfolding list_of
lists_are_read read = record {
  read_as = λ d xs. (list_ok read d xs, λ is. rw is.1 (ok_items read 0 is.0 xs is.2));
  refused = λ d at. (list_err read d at, err_list read d at);
}
