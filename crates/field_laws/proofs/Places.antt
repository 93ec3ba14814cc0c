-- What reading finds at a path is what stands there, and what is read of a row is what the row tells.
use Rattle.std.proofs.Common.{◌≡◌, List, [], ◌∷◌, Option, Some, None, option_map, unwrap_or, Result, Ok, Err, refl, sym, ap, ◌∙◌}
use Rattle.serde_json.specs.Data.{Data, null, boolean, number, string, array, object}
use Rattle.serde_json.specs.Find.{get_member}
use Rattle.json_fields.specs.Path.{Path, names_of}
use Rattle.json_fields.specs.Reading.{◌>>=◌, where_there, unless_null, some_of, within, or_missing, member_at, behind, optional_at, required_at, default_at}
use Rattle.field_laws.specs.Standing.{Standing, nothing, astray, here, if_there, look}
use Rattle.field_laws.specs.FieldTypes.{FieldType, required, optional, defaulted}
use Rattle.field_laws.specs.Told.{Told, as_put, at_place, standing_tells, told, row_told}

-- ---- places

abbrev pub found_as : Path → Standing → Result (Option Data) Path
found_as path nothing = Ok None
found_as path astray = Err path
found_as path (here d) = Ok (Some d)

in_member : (path : Path) (names : List Path) (found : Option Data) → ((d : Data) → behind path names d ≡ found_as path (look names d))
    → where_there (behind path names) (unless_null found) ≡ found_as path (if_there (look names) found)
in_member path names None same = refl
in_member path names (Some null) same = refl
in_member path names (Some (boolean b)) same = same (boolean b)
in_member path names (Some (number n)) same = same (number n)
in_member path names (Some (string text)) same = same (string text)
in_member path names (Some (array ds)) same = same (array ds)
in_member path names (Some (object ms)) same = same (object ms)

pub found_as_it_stands : (path : Path) (names : List Path) (d : Data) → behind path names d ≡ found_as path (look names d)
unfolding behind member_at
found_as_it_stands path [] d = refl
found_as_it_stands path (name ∷ names) null = refl
found_as_it_stands path (name ∷ names) (boolean b) = refl
found_as_it_stands path (name ∷ names) (number n) = refl
found_as_it_stands path (name ∷ names) (string text) = refl
found_as_it_stands path (name ∷ names) (array ds) = refl
found_as_it_stands path (name ∷ names) (object ms) = in_member path names (get_member name ms) (found_as_it_stands path names)

-- ---- rows

-- What is read of a value is what it tells, as make puts it.
abbrev pub Tells : {A X : Type 0} → (Data → Result A Path) → (Data → Result X Path) → (X → A) → Type 0
Tells read tell make = (d : Data) → read d ≡ as_put make (tell d)

some_placed : {A X : Type 0} (path : Path) (make : X → A) (tell : Result X Path)
    → some_of (within path (as_put make tell)) ≡ as_put (option_map make) (as_put (λ x. Some x) (at_place path tell))
some_placed path make (Ok x) = refl
some_placed path make (Err rest) = refl

optional_by : {A X : Type 0} (read : Data → Result A Path) (tell : Data → Result X Path) (make : X → A) (path : Path) → Tells read tell make → (at : Standing)
    → (found_as path at >>= where_there (λ d. some_of (within path (read d)))) ≡ as_put (option_map make) (standing_tells path (λ x. Some x) (Ok None) tell at)
optional_by read tell make path same nothing = refl
optional_by read tell make path same astray = refl
optional_by read tell make path same (here d) = ap (λ r. some_of (within path r)) (same d) ∙ some_placed path make (tell d)

optional_found : {A X : Type 0} (read : Data → Result A Path) (tell : Data → Result X Path) (make : X → A) (path : Path) → Tells read tell make → (d : Data)
    → optional_at read path d ≡ as_put (option_map make) (standing_tells path (λ x. Some x) (Ok None) tell (look (names_of path) d))
unfolding optional_at
optional_found read tell make path same d =
    ap (λ found. found >>= where_there (λ e. some_of (within path (read e)))) (found_as_it_stands path (names_of path) d)
    ∙ optional_by read tell make path same (look (names_of path) d)

pub optional_row : {A : Type 0} (read : Data → Result A Path) (type : FieldType) (make : Told type → A) (path : Path) → Tells read (told type) make → (d : Data)
    → optional_at read path d ≡ as_put (option_map make) (row_told (optional path type) d)
optional_row read type make path same d = optional_found read (told type) make path same d

missing_by : {A X : Type 0} (path : Path) (make : X → A) (tell : Result X Path)
    → (as_put (option_map make) (as_put (λ x. Some x) (at_place path tell)) >>= or_missing path) ≡ as_put make (as_put (λ x. x) (at_place path tell))
missing_by path make (Ok x) = refl
missing_by path make (Err rest) = refl

required_by : {A X : Type 0} (tell : Data → Result X Path) (make : X → A) (path : Path) (at : Standing)
    → (as_put (option_map make) (standing_tells path (λ x. Some x) (Ok None) tell at) >>= or_missing path)
    ≡ as_put make (standing_tells path (λ x. x) (Err path) tell at)
required_by tell make path nothing = refl
required_by tell make path astray = refl
required_by tell make path (here d) = missing_by path make (tell d)

pub required_row : {A : Type 0} (read : Data → Result A Path) (type : FieldType) (make : Told type → A) (path : Path) → Tells read (told type) make → (d : Data)
    → required_at read path d ≡ as_put make (row_told (required path type) d)
unfolding required_at
required_row read type make path same d =
    ap (λ found. found >>= or_missing path) (optional_found read (told type) make path same d)
    ∙ required_by (told type) make path (look (names_of path) d)

default_placed : {A X : Type 0} (path : Path) (make : X → A) (default : A) (tell : Result X Path)
    → (as_put (option_map make) (as_put (λ x. Some x) (at_place path tell)) >>= λ found. Ok (unwrap_or found default))
    ≡ as_put make (as_put (λ x. x) (at_place path tell))
default_placed path make default (Ok x) = refl
default_placed path make default (Err rest) = refl

default_by : {A X : Type 0} (tell : Data → Result X Path) (make : X → A) (path : Path) (default : A) (value : Result X Path) → as_put make value ≡ Ok default
    → (at : Standing)
    → (as_put (option_map make) (standing_tells path (λ x. Some x) (Ok None) tell at) >>= λ found. Ok (unwrap_or found default))
    ≡ as_put make (standing_tells path (λ x. x) value tell at)
default_by tell make path default value is nothing = sym is
default_by tell make path default value is astray = refl
default_by tell make path default value is (here d) = default_placed path make default (tell d)

pub default_row : {A : Type 0} (read : Data → Result A Path) (type : FieldType) (make : Told type → A) (path : Path) (default : A) (value : Data)
    → Tells read (told type) make → as_put make (told type value) ≡ Ok default → (d : Data)
    → default_at read path default d ≡ as_put make (row_told (defaulted path type value) d)
unfolding default_at
default_row read type make path default value same is d =
    ap (λ found. found >>= λ it. Ok (unwrap_or it default)) (optional_found read (told type) make path same d)
    ∙ default_by (told type) make path default (told type value) is (look (names_of path) d)
