-- The names of a path, one after the other.
use Rattle.std.proofs.Common.{◌≡◌, ℕ, ◌+◌, ◌<◌, List, [], ◌∷◌, length, eqb, Option, Some, None, Result, Ok, Err, refl, arith, Bor}
use Rattle.std.specs.Prelude.{MatchOption}
use Rattle.std.specs.List.{position_or_len, before_first, after_first}
use Rattle.std.proofs.lemmas.List.{length-drop}
use Rattle.std.proofs.lemmas.List.Splits.{slice_split_none, slice_split_first}
use Rattle.std.proofs.lemmas.List.Sums.{fails_before_first}
use Rattle.std.proofs.lemmas.Str.Pattern.{IsSplitOnceResult, split_once_first}
use Rattle.serde_json.specs.Data.{Data}
use Rattle.json_fields.specs.Path.{Path, names_of}
use Rattle.json_fields.specs.declared.fault.FieldFault.{FieldFault}
use Rattle.json_fields.specs.declared.fault.FieldFault.TheVariants.{Faulty, NoMemory}
use Rattle.json_fields.specs.Reading.{◌>>=◌, Fails, member_at, where_there, behind}

-- what `split_once` at a dot says of the names
abbrev pub IsCut : List ℕ → Option (Bor (List ℕ) × Bor (List ℕ)) → Type 0
IsCut path cut = MatchOption cut (names_of path ≡ path ∷ []) (λ x. (names_of path ≡ x.0.now ∷ names_of x.1.now) × (length x.1.now < length path))

whole : (path : Path) → position_or_len (λ c. eqb c 46) path ≡ length path → names_of path ≡ path ∷ []
whole path h = slice_split_none (λ c. eqb c 46) path (λ k d high. fails_before_first (λ c. eqb c 46) path k d (omega arith))

is_cut_from : (path : List ℕ) (r : Option (Bor (List ℕ) × Bor (List ℕ)))
    → MatchOption r (position_or_len (λ b. eqb b 46) path ≡ length path) (λ x. (position_or_len (λ b. eqb b 46) path < length path)
    × (x.0.now ≡ before_first (λ b. eqb b 46) path) × (x.1.now ≡ after_first (λ b. eqb b 46) path))
    → IsCut path r
is_cut_from path None h = whole path h
is_cut_from path (Some x) h = (
  rw (h.1, h.2) (slice_split_first (λ b. eqb b 46) path 0 h.0),
  rw h.2 (omega (arith, h.0, length-drop (position_or_len (λ b. eqb b 46) path + 1) path)),
)

is_cut : (path : List ℕ) (r : Option (Bor (List ℕ) × Bor (List ℕ))) → IsSplitOnceResult 46 path r → IsCut path r
is_cut path r h = is_cut_from path r (split_once_first 46 path r h (omega arith))

found_again : (read : Result (Option Data) Path) (go : Data → Result (Option Data) Path) → ((d : Data) → go d ≡ Ok (Some d)) → (read >>= where_there go) ≡ read
found_again (Ok None) go same = refl
found_again (Ok (Some d)) go same = same d
found_again (Err path) go same = refl

behind-one : (path : Path) (name : List ℕ) (d : Data) → behind path (name ∷ []) d ≡ member_at path name d
unfolding behind
behind-one path name d = found_again (member_at path name d) (behind path []) (λ d. refl)

-- a path with no dot is one name
pub one_name : (path names : Path) (d : Data) → IsSplitOnceResult 46 names None → behind path (names_of names) d ≡ member_at path names d
one_name path names d h =
    let cut : names_of names ≡ names ∷ [] = is_cut names None h in
    rw cut (behind-one path names d)

-- else the first name comes before the first dot
pub more_names : (path names : Path) (x : Bor (List ℕ) × Bor (List ℕ)) (d : Data) → IsSplitOnceResult 46 names (Some x)
    → behind path (names_of names) d ≡ (member_at path x.0.now d >>= where_there (behind path (names_of x.1.now)))
unfolding behind
more_names path names x d h =
    let cut : (names_of names ≡ x.0.now ∷ names_of x.1.now) × (length x.1.now < length names) = is_cut names (Some x) h in
    let first : names_of names ≡ x.0.now ∷ names_of x.1.now = cut.0 in
    rw first refl

pub fewer_names : (names : Path) (x : Bor (List ℕ) × Bor (List ℕ)) → IsSplitOnceResult 46 names (Some x) → length x.1.now < length names
fewer_names names x h =
    let cut : (names_of names ≡ x.0.now ∷ names_of x.1.now) × (length x.1.now < length names) = is_cut names (Some x) h in
    cut.1

-- A fault ends the reading.
pub Fails-bind : {A B : Type 0} (fault : FieldFault) (read : Result A Path) (next : A → Result B Path) → Fails fault read → Fails fault (read >>= next)
Fails-bind (Faulty p) read next h = rw h refl
Fails-bind NoMemory read next h = tt
