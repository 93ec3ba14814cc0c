-- Lists of runs.
use Rattle.std.proofs.Common.{◌≡◌, ◌≤◌, ◌<◌, ◌+◌, ℕ, zero, suc, Bool, true, false, cond, ◌||◌, eqb, leb, ltb, List, []}
use Rattle.std.proofs.Common.{◌∷◌, ◌++◌, length, get_or, take, drop, Option, Some, None, refl, sym, ap, ◌∙◌, subst, arith}
use Rattle.std.proofs.lemmas.Bool.{or_from, or_left, or_right, and_from, and_left, and_right, lt-leb, le-leb, eqb-true, ltb-true, ltb-false, true≢false}
use Rattle.std.proofs.lemmas.Option.{slice_get_within, get_or_from_slice_get}
use Rattle.std.specs.List.{slice_get}
use Rattle.std.specs.Prelude.{◌↔◌, ◌==◌}
use Rattle.std.specs.Option.{IsSomeAnd}
use Rattle.std.proofs.lemmas.List.Sorted.{IsPartitionedBy-ltb}
use Rattle.std.specs.List.Sorted.{IsNonDecreasingBy, IsPartitionedBy, IsPartitionPoint}
use Rattle.number_sets.specs.declared.runs.Run.{Run}
use Rattle.number_sets.specs.RunLists.{is_in_run, has_number, AreRunsFrom, count_numbers, IsFirstFrom, IsFound, IsRunOf, IsSetTo}

pub lower : (a b : ℕ) (runs : List Run) → b ≤ a → AreRunsFrom a runs → AreRunsFrom b runs
lower a b [] less up = tt
lower a b (r ∷ rs) less up = (omega (arith, less, up.0), up.1, up.2)

pub none-below : (low : ℕ) (runs : List Run) (m : ℕ) → AreRunsFrom low runs → m < low → has_number runs m ≡ false
none-below low [] m up below = refl
none-below low (r ∷ rs) m up below =
    or_from (is_in_run m r) (has_number rs m) (and_left (leb r.first m) (leb m r.last) (lt-leb r.first m (omega (arith, below, up.0))))
    (none-below (r.last + 2) rs m up.2 (omega (arith, below, up.0, up.1)))

-- each run has a number
pub no_more : (low : ℕ) (runs : List Run) → AreRunsFrom low runs → length runs ≤ count_numbers runs
no_more low [] up = omega arith
no_more low (r ∷ rs) up = let rest = no_more (r.last + 2) rs up.2 in omega (arith, rest, up.1)

-- the ends ascend
below_ends : (low : ℕ) (runs : List Run) (j : ℕ) (d : Run) → AreRunsFrom low runs → j < length runs → low ≤ (get_or runs j d).last
below_ends low [] j d up within = absurd (omega (arith, within))
below_ends low (r ∷ rs) zero d up within = omega (arith, up.0, up.1)
below_ends low (r ∷ rs) (suc j) d up within = below_ends low rs j d (lower (r.last + 2) low rs (omega (arith, up.0, up.1)) up.2) (omega (arith, within))

pub ends-ascend : (low : ℕ) (runs : List Run) → AreRunsFrom low runs → IsNonDecreasingBy (λ (r : Run). r.last) runs
ends-ascend low [] up i j d less within = absurd (omega (arith, within))
ends-ascend low (r ∷ rs) up zero zero d less within = omega arith
ends-ascend low (r ∷ rs) up zero (suc j) d less within = let later = below_ends (r.last + 2) rs j d up.2 (omega (arith, within)) in omega (arith, later)
ends-ascend low (r ∷ rs) up (suc i) zero d less within = absurd (omega (arith, less))
ends-ascend low (r ∷ rs) up (suc i) (suc j) d less within = ends-ascend (r.last + 2) rs up.2 i j d (omega (arith, less)) (omega (arith, within))

-- what `partition_point` asks
pub ends-parted : (n : ℕ) (runs : List Run) → AreRunsFrom 0 runs → IsPartitionedBy (λ r. ltb r.last n) runs
ends-parted n runs up = IsPartitionedBy-ltb (λ (r : Run). r.last) runs n (ends-ascend 0 runs up)

-- and what it finds
pub first-from : (n : ℕ) (runs : List Run) (i : ℕ) → IsPartitionPoint (λ r. ltb r.last n ≡ true) (λ r. ltb r.last n ≡ false) runs i → IsFirstFrom n runs i
first-from n runs i point = (
  λ k d from below. ltb-true (get_or runs k d).last n (point.0 k d from below),
  λ k d from below. ltb-false (get_or runs k d).last n (point.1 k d from below),
)

has-by : (e flag here h g : Bool) → g ≡ cond e flag h → (e ≡ true → here ≡ false) → (here || g) ≡ cond e flag (here || h)
has-by true flag here h g is out = rw (out refl) is
has-by false flag here h g is out = ap (λ b. here || b) is

-- a change after the runs that end below the number
pub set-behind : (n bound : ℕ) (flag : Bool) (runs new : List Run) (i low : ℕ) → bound ≤ n + 1 → low ≤ bound → i ≤ length runs
    → ((k : ℕ) (d : Run) → k < i → (get_or runs k d).last + 2 ≤ bound) → AreRunsFrom low runs
    → ((l : ℕ) → l ≤ bound → AreRunsFrom l (drop i runs) → IsSetTo l n flag (drop i runs) new)
    → IsSetTo low n flag runs (take i runs ++ new)
set-behind n bound flag runs new zero low near less within before up each = each low less up
set-behind n bound flag [] new (suc i) low near less within before up each = absurd (omega (arith, within))
set-behind n bound flag (r ∷ rs) new (suc i) low near less within before up each =
    let here : r.last + 2 ≤ bound = before 0 r (omega arith) in
    let rest : IsSetTo (r.last + 2) n flag rs (take i rs ++ new) =
    set-behind n bound flag rs new i (r.last + 2) near here (omega (arith, within)) (λ k d below. before (suc k) d (omega (arith, below))) up.2 each in
    let out : is_in_run n r ≡ false = and_right (leb r.first n) (leb n r.last) (lt-leb n r.last (omega (arith, here, near))) in
    record {
      has = λ m. has-by (eqb m n) flag (is_in_run m r) (has_number rs m) (has_number (take i rs ++ new) m) (rest.has m)
          (λ e. ap (λ k. is_in_run k r) (eqb-true m n e) ∙ out);
      apart = (up.0, up.1, rest.apart);
      counted = rw out (omega (arith, rest.counted));
    }

-- what stands at an index, and after it
pub drop-at : (runs : List Run) (i : ℕ) (r : Run) → slice_get runs i ≡ Some r → drop i runs ≡ r ∷ drop (suc i) runs
drop-at [] i r e = absurd (cc)
drop-at (x ∷ xs) zero r e = let same : x ≡ r = cc in ap (λ (y : Run). y ∷ xs) same
drop-at (x ∷ xs) (suc i) r e = drop-at xs i r e

pub drop-past : (runs : List Run) (i : ℕ) → slice_get runs i ≡ None → drop i runs ≡ []
drop-past [] zero e = refl
drop-past [] (suc i) e = refl
drop-past (x ∷ xs) zero e = absurd (cc)
drop-past (x ∷ xs) (suc i) e = drop-past xs i e

apart-behind : (low : ℕ) (runs : List Run) (i : ℕ) → AreRunsFrom low runs → (l : ℕ) × AreRunsFrom l (drop i runs)
apart-behind low runs zero up = (low, up)
apart-behind low [] (suc i) up = (low, tt)
apart-behind low (r ∷ rs) (suc i) up = apart-behind (r.last + 2) rs i up.2

-- the run at an index and those after it
pub apart-at : (runs : List Run) (i : ℕ) (r : Run) → AreRunsFrom 0 runs → slice_get runs i ≡ Some r → AreRunsFrom r.first (r ∷ drop (suc i) runs)
apart-at runs i r up e =
    let behind = apart-behind 0 runs i up in
    let all : AreRunsFrom behind.0 (r ∷ drop (suc i) runs) = subst (AreRunsFrom behind.0) (drop-at runs i r e) behind.1 in
    (omega arith, all.1, all.2)

has-behind : (n : ℕ) (runs : List Run) (i : ℕ) → i ≤ length runs → ((k : ℕ) (d : Run) → k < i → (get_or runs k d).last < n)
    → has_number runs n ≡ has_number (drop i runs) n
has-behind n runs zero within before = refl
has-behind n [] (suc i) within before = absurd (omega (arith, within))
has-behind n (r ∷ rs) (suc i) within before =
    let here : r.last < n = before 0 r (omega arith) in
    let out : is_in_run n r ≡ false = and_right (leb r.first n) (leb n r.last) (lt-leb n r.last here) in
    let rest : has_number rs n ≡ has_number (drop i rs) n = has-behind n rs i (omega (arith, within)) (λ k d below. before (suc k) d (omega (arith, below))) in
    rw out rest

-- a number that the run at an index contains
pub has-at : (runs : List Run) (i : ℕ) (r : Run) (m : ℕ) → slice_get runs i ≡ Some r → r.first ≤ m → m ≤ r.last → has_number runs m ≡ true
has-at [] i r m e from to = absurd (cc)
has-at (x ∷ xs) zero r m e from to =
    let same : x ≡ r = cc in
    or_left (is_in_run m x) (has_number xs m) (ap (is_in_run m) same ∙ and_from (leb r.first m) (leb m r.last) (le-leb r.first m from) (le-leb m r.last to))
has-at (x ∷ xs) (suc i) r m e from to = or_right (is_in_run m x) (has_number xs m) (has-at xs i r m e from to)

-- there are no runs exactly where no number is in them
abbrev IsEmptyWhere : List Run → ℕ → Type 0
IsEmptyWhere runs len = ((len == 0) ≡ true) ↔ ◌≡◌ {A = ℕ → Bool} (has_number runs) (λ n. false)

empty-by : (runs : List Run) → AreRunsFrom 0 runs → IsEmptyWhere runs (length runs)
empty-by [] up = (λ yes. refl, λ none. refl)
empty-by (r ∷ rs) up = (
  λ yes. let none : length (r ∷ rs) ≡ 0 = eqb-true (length (r ∷ rs)) 0 yes in absurd (omega (arith, none)),
  λ none. absurd (true≢false (sym (has-at (r ∷ rs) 0 r r.first refl (omega arith) up.1) ∙ ap (λ (f : ℕ → Bool). f r.first) none)),
)

pub no-runs : (runs : List Run) (len : ℕ) → len ≡ length runs → AreRunsFrom 0 runs → IsEmptyWhere runs len
no-runs runs len counted up = subst (λ (n : ℕ). IsEmptyWhere runs n) (sym counted) (empty-by runs up)

module _ (n : ℕ) (runs : List Run) (i : ℕ) (within : i ≤ length runs) (before : (k : ℕ) (d : Run) → k < i → (get_or runs k d).last < n) where
  pub absent-past : slice_get runs i ≡ None → has_number runs n ≡ false
  absent-past e = has-behind n runs i within before ∙ ap (λ (rs : List Run). has_number rs n) (drop-past runs i e)

  pub absent-before : (r : Run) → AreRunsFrom 0 runs → slice_get runs i ≡ Some r → n < r.first → has_number runs n ≡ false
  absent-before r up e less =
      has-behind n runs i within before ∙ ap (λ (rs : List Run). has_number rs n) (drop-at runs i r e)
      ∙ none-below r.first (r ∷ drop (suc i) runs) n (apart-at runs i r up e) less

  pub absent-after : (r : Run) → AreRunsFrom 0 runs → slice_get runs i ≡ Some r → n ≡ r.last + 1 → has_number runs n ≡ false
  absent-after r up e is =
      let all = apart-at runs i r up e in
      has-behind n runs i within before ∙ ap (λ (rs : List Run). has_number rs n) (drop-at runs i r e)
      ∙ or_from (is_in_run n r) (has_number (drop (suc i) runs) n) (and_right (leb r.first n) (leb n r.last) (lt-leb n r.last (omega (arith, is))))
      (none-below (r.last + 2) (drop (suc i) runs) n all.2 (omega (arith, is)))

pub ends-before : (n : ℕ) (runs : List Run) (i : ℕ) → IsFirstFrom n runs i → (m : ℕ) → n ≤ m → (k : ℕ) (d : Run) → k < i → (get_or runs k d).last < m
ends-before n runs i point m less k d below = let ends = point.0 k d (omega arith) below in omega (arith, ends, less)

-- the run at the index that was found ends at the number or after it
pub ends-from : (n : ℕ) (runs : List Run) (i : ℕ) (r : Run) → IsFirstFrom n runs i → slice_get runs i ≡ Some r → n ≤ r.last
ends-from n runs i r point e =
    let ends = point.1 i r (omega arith) (slice_get_within runs i r e) in
    let same : get_or runs i r ≡ r = get_or_from_slice_get runs i r r e in
    subst (λ (x : Run). n ≤ x.last) same ends

pub run-of : (n : ℕ) (runs : List Run) (i : ℕ) (r : Run) → AreRunsFrom 0 runs → IsFirstFrom n runs i → i ≤ length runs → slice_get runs i ≡ Some r → r.first ≤ n
    → IsRunOf runs n r
run-of n runs i r up point within e from =
    let to = ends-from n runs i r point e in
    record {
      within = to;
      all = λ m less more. has-at runs i r m e (omega (arith, from, less)) more;
      behind = absent-after (r.last + 1) runs i within (ends-before n runs i point (r.last + 1) (omega (arith, to))) r up e refl;
    }

-- the run at the index that was found for a number is the first with a number from that one on
module _ (n : ℕ) (runs : List Run) (i : ℕ) (found : IsFound n runs i) where
  pub none-past : slice_get runs i ≡ None → (m : ℕ) → n ≤ m → has_number runs m ≡ false
  none-past e m less = absent-past m runs i found.within (ends-before n runs i found.point m less) e

  module _ (r : Run) (e : slice_get runs i ≡ Some r) where
    pub none-ahead : (m : ℕ) → n ≤ m → m < r.first → has_number runs m ≡ false
    none-ahead m less below = absent-before m runs i found.within (ends-before n runs i found.point m less) r found.apart e below

    pub has-start : r.first ≤ n → has_number runs n ≡ true
    has-start from = has-at runs i r n e from (ends-from n runs i r found.point e)

    pub has-first : has_number runs r.first ≡ true
    has-first = has-at runs i r r.first e (omega arith) (apart-at runs i r found.apart e).1

same_by : (e flag h : Bool) → (e ≡ true → h ≡ flag) → h ≡ cond e flag h
same_by true flag h is = is refl
same_by false flag h is = refl

-- nothing is to be changed
pub set-same : (n : ℕ) (flag : Bool) (runs : List Run) → AreRunsFrom 0 runs → has_number runs n ≡ flag → IsSetTo 0 n flag runs runs
set-same n flag runs up is =
    record {
      has = λ m. same_by (eqb m n) flag (has_number runs m) (λ e. ap (has_number runs) (eqb-true m n e) ∙ is);
      apart = up;
      counted = rw is refl;
    }

-- where a run has a number between its first and its last, there are more numbers than runs
pub fewer-runs : (low : ℕ) (runs : List Run) (i : ℕ) (r : Run) → AreRunsFrom low runs → slice_get runs i ≡ Some r → r.first + 2 ≤ r.last
    → length runs < count_numbers runs
fewer-runs low [] i r up e long = absurd (cc)
fewer-runs low (x ∷ xs) zero r up e long =
    let same : x ≡ r = cc in
    let is_long : x.first + 2 ≤ x.last = subst (λ (y : Run). y.first + 2 ≤ y.last) (sym same) long in
    let rest = no_more (x.last + 2) xs up.2 in
    omega (arith, is_long, rest)
fewer-runs low (x ∷ xs) (suc i) r up e long = let rest = fewer-runs (x.last + 2) xs i r up.2 e long in omega (arith, rest, up.1)

-- what is read where a run stands
read-by : (o : Option Run) (n : ℕ) (x : Run) → IsSomeAnd o (λ r. r.last + 1 ≡ n) → ((r : Run) → o ≡ Some r → x ≡ r) → (o ≡ Some x) × (x.last + 1 ≡ n)
read-by None n x ends same = absurd ends
read-by (Some r) n x ends same = let is : x ≡ r = same r refl in (ap Some (sym is), ap (λ (y : Run). y.last + 1) is ∙ ends)

pub read-at : (runs : List Run) (i n : ℕ) (x : Run) → IsSomeAnd (slice_get runs i) (λ r. r.last + 1 ≡ n) → x ≡ get_or runs i x
    → (slice_get runs i ≡ Some x) × (x.last + 1 ≡ n)
read-at runs i n x ends is = read-by (slice_get runs i) n x ends (λ r e. is ∙ get_or_from_slice_get runs i r x e)

pub ends-at : (o : Option Run) (n : ℕ) (r : Run) → o ≡ Some r → r.last + 1 ≡ n → IsSomeAnd o (λ r. r.last + 1 ≡ n)
ends-at o n r e ends = rw e ends
