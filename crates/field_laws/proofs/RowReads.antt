-- Rows one after the other.
use Rattle.std.proofs.Common.{◌≡◌, ◌⊎◌, Option, Some, None, Result, Ok, Err, refl, ap, inl, inr}
use Rattle.serde_json.specs.Data.{Data}
use Rattle.json_fields.specs.Path.{Path, names_of, joined}
use Rattle.field_laws.specs.Standing.{Standing, nothing, astray, here, look}
use Rattle.field_laws.specs.FieldTypes.{Row, required, optional, defaulted, Rows, no_rows, ◌▸◌}
use Rattle.field_laws.specs.Told.{Told, RowTold, RowsTold, as_put, at_place, both, standing_tells, told, row_told, rows_told}
use Rattle.field_laws.specs.FieldLaws.{IsAbsent, IsThere, IsFaulty}
use Rattle.field_laws.specs.RowLaws.{Has, IsAtFault, HaveAll, IsFirstAtFault, RowsAreTold}
use Rattle.field_laws.proofs.FieldReads.{There, Faulty}

-- ---- a row

put_ok : {A : Type 0} (path : Path) (r : Result A Path) (x : A) → as_put (λ y. y) (at_place path r) ≡ Ok x → r ≡ Ok x
put_ok path (Ok y) x e = let same : y ≡ x = cc in ap (λ it. Ok it) same
put_ok path (Err rest) x e = absurd cc

put_err : {A B : Type 0} (path : Path) (make : A → B) (r : Result A Path) (fault : Path) → as_put make (at_place path r) ≡ Err fault
    → (rest : Path) × (r ≡ Err rest) × (joined path rest ≡ fault)
put_err path make (Ok y) fault e = absurd cc
put_err path make (Err rest) fault e = (rest, refl, cc)

some_ok : {A : Type 0} (path : Path) (r : Result A Path) (x : A) → as_put (λ y. Some y) (at_place path r) ≡ Ok (Some x) → r ≡ Ok x
some_ok path (Ok y) x e = let same : y ≡ x = cc in ap (λ it. Ok it) same
some_ok path (Err rest) x e = absurd cc

none_ok : {A : Type 0} (path : Path) (r : Result A Path) → as_put (λ y. Some y) (at_place path r) ≡ Ok None → ⊥
none_ok path (Ok y) e = absurd cc
none_ok path (Err rest) e = absurd cc

plain_ok : {A : Type 0} (path : Path) (absent : Result A Path) (tell : Data → Result A Path) (at : Standing) (x : A)
    → standing_tells path (λ y. y) absent tell at ≡ Ok x
    → (at ≡ nothing) × (absent ≡ Ok x) ⊎ There tell at x
plain_ok path absent tell nothing x e = inl (refl, e)
plain_ok path absent tell astray x e = absurd cc
plain_ok path absent tell (here d) x e = inr (d, refl, put_ok path (tell d) x e)

ok_plain : {A : Type 0} (path : Path) (absent : Result A Path) (tell : Data → Result A Path) (at : Standing) (x : A)
    → (at ≡ nothing) × (absent ≡ Ok x) ⊎ There tell at x
    → standing_tells path (λ y. y) absent tell at ≡ Ok x
ok_plain path absent tell at x (inl is) = rw is.0 is.1
ok_plain path absent tell at x (inr is) = rw (is.1, is.2) refl

row_err : {A B : Type 0} (path : Path) (make : A → B) (absent : Result B Path) (tell : Data → Result A Path) (at : Standing) (fault : Path)
    → standing_tells path make absent tell at ≡ Err fault
    → (at ≡ nothing) × (absent ≡ Err fault) ⊎ Faulty tell path at fault
row_err path make absent tell nothing fault e = inl (refl, e)
row_err path make absent tell astray fault e = inr (inl (refl, cc))
row_err path make absent tell (here d) fault e = let there = put_err path make (tell d) fault e in inr (inr (d, there.0, refl, there.1, there.2))

err_row : {A B : Type 0} (path : Path) (make : A → B) (absent : Result B Path) (tell : Data → Result A Path) (at : Standing) (fault : Path)
    → (at ≡ nothing) × (absent ≡ Err fault) ⊎ Faulty tell path at fault
    → standing_tells path make absent tell at ≡ Err fault
err_row path make absent tell at fault (inl is) = rw is.0 is.1
err_row path make absent tell at fault (inr (inl is)) = rw is.0 (ap (λ it. Err it) is.1)
err_row path make absent tell at fault (inr (inr is)) = rw (is.2, is.3) (ap (λ it. Err it) is.4)

never : {A : Type 0} {B : Type 0} (path : Path) (x : A) → Err path ≡ Ok x → B
never path x e = absurd cc

abbrev error_at : (A : Type 0) → Path → Result A Path
error_at A path = Err path

abbrev none_told : (A : Type 0) → Result (Option A) Path
none_told A = Ok None

same_err : (A : Type 0) (path at : Path) → error_at A path ≡ Err at → path ≡ at
same_err A path at e = cc

no_err : (A : Type 0) (at : Path) → none_told A ≡ Err at → ⊥
no_err A at e = absurd cc

has_from : (row : Row) (d : Data) (x : RowTold row) → row_told row d ≡ Ok x → Has row d x
has_from (required path type) d x e = only (plain_ok path (Err path) (told type) (look (names_of path) d) x e)
  where
    only : (look (names_of path) d ≡ nothing) × (Err path ≡ Ok x) ⊎ There (told type) (look (names_of path) d) x → IsThere (told type) path d x
    only (inl is) = never path x is.1
    only (inr is) = is
has_from (optional path type) d None e = absent (look (names_of path) d) e
  where
    absent : (at : Standing) → standing_tells path (λ y. Some y) (Ok None) (told type) at ≡ Ok None → at ≡ nothing
    absent nothing e = refl
    absent astray e = absurd cc
    absent (here v) e = absurd (none_ok path (told type v) e)
has_from (optional path type) d (Some x) e = there (look (names_of path) d) e
  where
    there : (at : Standing) → standing_tells path (λ y. Some y) (Ok None) (told type) at ≡ Ok (Some x) → There (told type) at x
    there nothing e = absurd cc
    there astray e = absurd cc
    there (here v) e = (v, refl, some_ok path (told type v) x e)
has_from (defaulted path type default) d x e = plain_ok path (told type default) (told type) (look (names_of path) d) x e

has_to : (row : Row) (d : Data) (x : RowTold row) → Has row d x → row_told row d ≡ Ok x
has_to (required path type) d x has = ok_plain path (Err path) (told type) (look (names_of path) d) x (inr has)
has_to (optional path type) d None has = rw has refl
has_to (optional path type) d (Some x) has = rw (has.1, has.2) refl
has_to (defaulted path type default) d x has = ok_plain path (told type default) (told type) (look (names_of path) d) x has

fault_from : (row : Row) (d : Data) (at : Path) → row_told row d ≡ Err at → IsAtFault row d at
fault_from (required path type) d at e = missing (row_err path (λ y. y) (Err path) (told type) (look (names_of path) d) at e)
  where
    missing : (look (names_of path) d ≡ nothing) × (error_at (Told type) path ≡ Err at) ⊎ Faulty (told type) path (look (names_of path) d) at
        → IsAbsent path d × (path ≡ at) ⊎ IsFaulty (told type) path d at
    missing (inl is) = inl (is.0, same_err (Told type) path at is.1)
    missing (inr is) = inr is
fault_from (optional path type) d at e = there (row_err path (λ y. Some y) (Ok None) (told type) (look (names_of path) d) at e)
  where
    there : (look (names_of path) d ≡ nothing) × (none_told (Told type) ≡ Err at) ⊎ Faulty (told type) path (look (names_of path) d) at
        → IsFaulty (told type) path d at
    there (inl is) = absurd (no_err (Told type) at is.1)
    there (inr is) = is
fault_from (defaulted path type default) d at e = row_err path (λ y. y) (told type default) (told type) (look (names_of path) d) at e

fault_to : (row : Row) (d : Data) (at : Path) → IsAtFault row d at → row_told row d ≡ Err at
fault_to (required path type) d at (inl is) = err_row path (λ y. y) (Err path) (told type) (look (names_of path) d) at (inl (is.0, ap (λ it. Err it) is.1))
fault_to (required path type) d at (inr is) = err_row path (λ y. y) (Err path) (told type) (look (names_of path) d) at (inr is)
fault_to (optional path type) d at is = err_row path (λ y. Some y) (Ok None) (told type) (look (names_of path) d) at (inr is)
fault_to (defaulted path type default) d at is = err_row path (λ y. y) (told type default) (told type) (look (names_of path) d) at is

-- ---- rows

both_ok : {A B : Type 0} (first : Result A Path) (others : Result B Path) (values : A × B) → both first others ≡ Ok values
    → (first ≡ Ok values.0) × (others ≡ Ok values.1)
both_ok {A} {B} (Ok x) (Ok y) values e = let same : (x, y) ≡ values = cc in (ap (λ (it : A × B). Ok it.0) same, ap (λ (it : A × B). Ok it.1) same)
both_ok (Ok x) (Err path) values e = absurd cc
both_ok (Err path) others values e = absurd cc

both_err : {A B : Type 0} (first : Result A Path) (others : Result B Path) (at : Path) → both first others ≡ Err at
    → (first ≡ Err at) ⊎ ((x : A) × (first ≡ Ok x) × (others ≡ Err at))
both_err (Ok x) (Ok y) at e = absurd cc
both_err (Ok x) (Err path) at e = let same : path ≡ at = cc in inr (x, refl, ap (λ it. Err it) same)
both_err (Err path) others at e = let same : path ≡ at = cc in inl (ap (λ it. Err it) same)

all_from : (rows : Rows) (d : Data) (values : RowsTold rows) → rows_told rows d ≡ Ok values → HaveAll rows d values
all_from no_rows d values e = tt
all_from (row ▸ rows) d values e =
    let are = both_ok (row_told row d) (rows_told rows d) values e in
    (has_from row d values.0 are.0, all_from rows d values.1 are.1)

all_to : (rows : Rows) (d : Data) (values : RowsTold rows) → HaveAll rows d values → rows_told rows d ≡ Ok values
all_to no_rows d values have = refl
all_to (row ▸ rows) d values have = rw (has_to row d values.0 have.0, all_to rows d values.1 have.1) refl

first_by : (row : Row) (rows : Rows) (d : Data) (at : Path) → (rows_told rows d ≡ Err at → IsFirstAtFault rows d at)
    → (row_told row d ≡ Err at) ⊎ ((x : RowTold row) × (row_told row d ≡ Ok x) × (rows_told rows d ≡ Err at)) → IsFirstAtFault (row ▸ rows) d at
first_by row rows d at later (inl is) = inl (fault_from row d at is)
first_by row rows d at later (inr is) = inr (is.0, has_from row d is.0 is.1, later is.2)

first_from : (rows : Rows) (d : Data) (at : Path) → rows_told rows d ≡ Err at → IsFirstAtFault rows d at
first_from no_rows d at e = absurd cc
first_from (row ▸ rows) d at e = first_by row rows d at (first_from rows d at) (both_err (row_told row d) (rows_told rows d) at e)

first_to : (rows : Rows) (d : Data) (at : Path) → IsFirstAtFault rows d at → rows_told rows d ≡ Err at
first_to no_rows d at is = absurd is
first_to (row ▸ rows) d at (inl is) = rw (fault_to row d at is) refl
first_to (row ▸ rows) d at (inr is) = rw (has_to row d is.0 is.1, first_to rows d at is.2) refl

pub rows_are_told : (rows : Rows) (d : Data) → RowsAreTold rows d
rows_are_told rows d = record {
  values = λ values. (all_from rows d values, all_to rows d values);
  refused = λ at. (first_from rows d at, first_to rows d at);
}
