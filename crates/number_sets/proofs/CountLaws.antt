-- How many numbers pass, and how many stand in runs before others.
use Rattle.std.proofs.Common.{◌≡◌, ◌≤◌, ◌<◌, ◌+◌, ◌-◌, ℕ, zero, suc, Bool, true, false, cond, not, ◌&&◌, ◌||◌, leb, leb-true, List, []}
use Rattle.std.proofs.Common.{◌∷◌, ◌++◌, length, get_or, take, drop, Option, Some, None, IfSome, IfNone, refl, sym, ap, ◌∙◌, subst, arith, ⊎_elim}
use Rattle.std.proofs.Common.{eq-or-lt_of_le, add-one}
use Rattle.std.proofs.lemmas.Bool.{and_from, cases_lt, false_from_ne_true, leb-false}
use Rattle.std.proofs.lemmas.Bool.Decides.{nat_tests}
use Rattle.std.proofs.lemmas.Option.{slice_get_within, get_or_from_slice_get}
use Rattle.std.proofs.Math.ListN.{set}
use Rattle.std.specs.List.{slice_get, insert, remove}
use Rattle.std.specs.List.Sorted.{IsNonDecreasingBy, IsPartitionPoint}
use Rattle.number_sets.specs.declared.runs.Run.{Run}
use Rattle.number_sets.specs.Counts.{count_below}
use Rattle.number_sets.specs.Least.{IsLeastIn, NonePasses}
use Rattle.number_sets.specs.RunLists.{has_number, AreCountedTo, AreRunsFrom, count_numbers, IsFound}
use Rattle.number_sets.proofs.RunLaws.{lower, none-below, drop-at, drop-past, ends-from, ends-ascend, has-at, absent-past, absent-before}

-- ---- counts of what passes a test
module _ (test : ℕ → Bool) where
  pub count-none : (m n : ℕ) → m ≤ n → ((k : ℕ) → m ≤ k → k < n → test k ≡ false) → count_below test n ≡ count_below test m
  count-none m zero less none = let same : zero ≡ m = omega (arith, less) in ap (count_below test) same
  count-none m (suc n) less none =
      ⊎_elim
      (λ same. ap (count_below test) (sym same))
      (λ more.
      let here : test n ≡ false = none n (omega (arith, more)) (omega arith) in
      let rest : count_below test n ≡ count_below test m = count-none m n (omega (arith, more)) (λ k from below. none k from (omega (arith, below))) in
      rw here (omega (arith, rest)))
      (eq-or-lt_of_le less)

  pub count-ascends : (m n : ℕ) → m ≤ n → count_below test m ≤ count_below test n
  count-ascends m zero less = let same : m ≡ zero = omega (arith, less) in rw same (omega arith)
  count-ascends m (suc n) less =
      ⊎_elim
      (λ same. rw same (omega arith))
      (λ more. let rest = count-ascends m n (omega (arith, more)) in omega (arith, rest))
      (eq-or-lt_of_le less)

  pub count-some : (m n k : ℕ) → m ≤ k → k < n → test k ≡ true → count_below test m < count_below test n
  count-some m n k from below passes =
      let here : count_below test (suc k) ≡ 1 + count_below test k = rw passes refl in
      let first = count-ascends m k from in
      let last = count-ascends (suc k) n (omega (arith, below)) in
      omega (arith, here, first, last)

  -- where no more pass below n than below m, none passes between
  pub none-between : (m n : ℕ) → count_below test n ≤ count_below test m → (k : ℕ) → m ≤ k → k < n → test k ≡ false
  none-between m n few k from below =
      false_from_ne_true (test k) (λ passes. let more = count-some m n k from below passes in absurd (omega (arith, few, more)))

split-by : (x y : Bool) (p q r : ℕ) → (y ≡ true → x ≡ true) → p ≡ q + r → cond x 1 0 + p ≡ (cond y 1 0 + q) + (cond (x && not y) 1 0 + r)
split-by true true p q r each is = omega (arith, is)
split-by true false p q r each is = omega (arith, is)
split-by false false p q r each is = omega (arith, is)
split-by false true p q r each is = let no : false ≡ true = each refl in absurd (cc)

-- what passes both tests, and what passes the one alone
pub count-split : (a b : ℕ → Bool) → ((n : ℕ) → b n ≡ true → a n ≡ true) → (m : ℕ)
    → count_below a m ≡ count_below b m + count_below (λ n. a n && not (b n)) m
count-split a b each zero = refl
count-split a b each (suc m) =
    split-by (a m) (b m) (count_below a m) (count_below b m) (count_below (λ n. a n && not (b n)) m) (each m) (count-split a b each m)

pub count-beyond : (a b : ℕ → Bool) → ((n : ℕ) → b n ≡ true → a n ≡ true) → (m : ℕ)
    → count_below a m - count_below b m ≡ count_below (λ n. a n && not (b n)) m
count-beyond a b each m = let split = count-split a b each m in omega (arith, split)

-- ---- how many numbers below m the runs have
abbrev rank : List Run → ℕ → ℕ
rank [] m = 0
rank (r ∷ rs) m = ((r.last + 1 - r.first) - (r.last + 1 - m)) + rank rs m

rank-low : (low : ℕ) (runs : List Run) (m : ℕ) → AreRunsFrom low runs → m ≤ low → rank runs m ≡ 0
rank-low low [] m up less = refl
rank-low low (r ∷ rs) m up less = let rest = rank-low (r.last + 2) rs m up.2 (omega (arith, less, up.0, up.1)) in omega (arith, rest, less, up.0)

next-by : (f l m : ℕ) (h : Bool) (p q : ℕ) → f ≤ l → (m ≤ l + 1 → h ≡ false) → p ≡ cond h 1 0 + q
    → ((l + 1 - f) - (l + 1 - suc m)) + p ≡ cond ((leb f m && leb m l) || h) 1 0 + (((l + 1 - f) - (l + 1 - m)) + q)
next-by f l m h p q within none is = grind (arith, nat_tests)

rank-next : (low : ℕ) (runs : List Run) (m : ℕ) → AreRunsFrom low runs → rank runs (suc m) ≡ cond (has_number runs m) 1 0 + rank runs m
rank-next low [] m up = refl
rank-next low (r ∷ rs) m up =
    next-by r.first r.last m (has_number rs m) (rank rs (suc m)) (rank rs m) up.1
    (λ less. none-below (r.last + 2) rs m up.2 (omega (arith, less))) (rank-next (r.last + 2) rs m up.2)

rank-is : (runs : List Run) (m : ℕ) → AreRunsFrom 0 runs → count_below (has_number runs) m ≡ rank runs m
rank-is runs zero up = sym (rank-low 0 runs 0 up (omega arith))
rank-is runs (suc m) up = ap (λ (n : ℕ). cond (has_number runs m) 1 0 + n) (rank-is runs m up) ∙ sym (rank-next 0 runs m up)

rank-behind : (m : ℕ) (runs : List Run) (i : ℕ) → i ≤ length runs → ((k : ℕ) (d : Run) → k < i → (get_or runs k d).last < m)
    → rank runs m ≡ count_numbers (take i runs) + rank (drop i runs) m
rank-behind m runs zero within before = omega arith
rank-behind m [] (suc i) within before = absurd (omega (arith, within))
rank-behind m (r ∷ rs) (suc i) within before =
    let here : r.last < m = before 0 r (omega arith) in
    let rest = rank-behind m rs i (omega (arith, within)) (λ k d below. before (suc k) d (omega (arith, below))) in
    omega (arith, here, rest)

first-at : (low : ℕ) (runs : List Run) (i : ℕ) (r : Run) → AreRunsFrom low runs → slice_get runs i ≡ Some r
    → (low ≤ r.first) × (r.first ≤ r.last) × AreRunsFrom (r.last + 2) (drop (suc i) runs)
first-at low [] i r up e = absurd (cc)
first-at low (x ∷ xs) zero r up e = let same : x ≡ r = cc in subst (λ (y : Run). (low ≤ y.first) × (y.first ≤ y.last) × AreRunsFrom (y.last + 2) xs) same up
first-at low (x ∷ xs) (suc i) r up e =
    let rest = first-at (x.last + 2) xs i r up.2 e in (omega (arith, rest.0, up.0, up.1), rest.1, rest.2)

-- what is counted below a number for which the run was found
module _ (m : ℕ) (runs : List Run) (i : ℕ) (found : IsFound m runs i) where
  less-ends : (k : ℕ) (d : Run) → k < i → (get_or runs k d).last < m
  less-ends k d below = found.point.0 k d (omega arith) below

  pub counted-past : slice_get runs i ≡ None → count_below (has_number runs) m ≡ count_numbers runs
  counted-past e =
      rank-is runs m found.apart ∙ rank-behind m runs i found.within less-ends
      ∙ ap (λ (rs : List Run). count_numbers (take i runs) + rank rs m) (drop-past runs i e)
      ∙ taken-all runs i e
    where
      taken-all : (xs : List Run) (j : ℕ) → slice_get xs j ≡ None → count_numbers (take j xs) + 0 ≡ count_numbers xs
      taken-all [] zero e = refl
      taken-all [] (suc j) e = refl
      taken-all (x ∷ xs) zero e = absurd (cc)
      taken-all (x ∷ xs) (suc j) e = let rest = taken-all xs j e in omega (arith, rest)

  pub counted-at : (r : Run) → slice_get runs i ≡ Some r → count_below (has_number runs) m ≡ count_numbers (take i runs) + (m - r.first)
  counted-at r e =
      let at = first-at 0 runs i r found.apart e in
      let upto = ends-from m runs i r found.point e in
      let none = rank-low (r.last + 2) (drop (suc i) runs) m at.2 (omega (arith, upto)) in
      let all : rank (drop i runs) m ≡ rank (r ∷ drop (suc i) runs) m = ap (λ (rs : List Run). rank rs m) (drop-at runs i r e) in
      let is = rank-is runs m found.apart in
      let behind = rank-behind m runs i found.within less-ends in
      omega (arith, is, behind, all, none, upto, at.1)

-- ---- counts of runs that are taken
pub taken-next : (runs : List Run) (i : ℕ) (d : Run) → i < length runs
    → count_numbers (take (i + 1) runs) ≡ count_numbers (take i runs) + ((get_or runs i d).last + 1 - (get_or runs i d).first)
taken-next runs i d within = ap (λ (n : ℕ). count_numbers (take n runs)) (add-one i) ∙ by runs i within
  where
    by : (xs : List Run) (j : ℕ) → j < length xs
        → count_numbers (take (suc j) xs) ≡ count_numbers (take j xs) + ((get_or xs j d).last + 1 - (get_or xs j d).first)
    by [] j within = absurd (omega (arith, within))
    by (x ∷ xs) zero within = omega arith
    by (x ∷ xs) (suc j) within = let rest = by xs j (omega (arith, within)) in omega (arith, rest)

taken-fewer : (runs : List Run) (i : ℕ) → count_numbers (take i runs) ≤ count_numbers runs
taken-fewer [] zero = omega arith
taken-fewer [] (suc i) = omega arith
taken-fewer (x ∷ xs) zero = omega arith
taken-fewer (x ∷ xs) (suc i) = let rest = taken-fewer xs i in omega (arith, rest)

pub run-ascends : (low : ℕ) (runs : List Run) (i : ℕ) (d : Run) → AreRunsFrom low runs → i < length runs → (get_or runs i d).first ≤ (get_or runs i d).last
run-ascends low [] i d up within = absurd (omega (arith, within))
run-ascends low (r ∷ rs) zero d up within = up.1
run-ascends low (r ∷ rs) (suc i) d up within = run-ascends (r.last + 2) rs i d up.2 (omega (arith, within))

-- those of a run and the runs before it are no more than all
pub run-fits : (runs : List Run) (i : ℕ) (d : Run) → i < length runs
    → count_numbers (take i runs) + ((get_or runs i d).last + 1 - (get_or runs i d).first) ≤ count_numbers runs
run-fits runs i d within =
    let next = taken-next runs i d within in
    let fewer = taken-fewer runs (i + 1) in
    omega (arith, next, fewer)

pub run-held : (runs : List Run) (i : ℕ) (r : Run) → slice_get runs i ≡ Some r → count_numbers (take i runs) + (r.last + 1 - r.first) ≤ count_numbers runs
run-held runs i r e =
    subst (λ (q : Run). count_numbers (take i runs) + (q.last + 1 - q.first) ≤ count_numbers runs) (get_or_from_slice_get runs i r r e)
    (run-fits runs i r (slice_get_within runs i r e))

pub past-none : (runs : List Run) (i : ℕ) → slice_get runs i ≡ None → length runs ≤ i
past-none [] i e = omega arith
past-none (x ∷ xs) zero e = absurd (cc)
past-none (x ∷ xs) (suc i) e = let rest = past-none xs i e in omega (arith, rest)

-- ---- counts that are taken and put after others
pub length-taken : (before : List ℕ) (i : ℕ) → i ≤ length before → length (take i before) ≡ i
length-taken before zero within = refl
length-taken [] (suc i) within = absurd (omega (arith, within))
length-taken (x ∷ xs) (suc i) within = let rest = length-taken xs i (omega (arith, within)) in omega (arith, rest)

pub length-put : (before : List ℕ) (x : ℕ) → length (before ++ x ∷ []) ≡ length before + 1
length-put [] x = refl
length-put (y ∷ ys) x = let rest = length-put ys x in omega (arith, rest)

get-taken : (before : List ℕ) (n k : ℕ) → k < n → get_or (take n before) k 0 ≡ get_or before k 0
get-taken before zero k less = absurd (omega (arith, less))
get-taken [] (suc n) k less = refl
get-taken (x ∷ xs) (suc n) zero less = refl
get-taken (x ∷ xs) (suc n) (suc k) less = get-taken xs n k (omega (arith, less))

pub counted-taken : (runs : List Run) (before : List ℕ) (i : ℕ) → AreCountedTo i runs before → AreCountedTo i runs (take i before)
counted-taken runs before i counts k less = get-taken before i k less ∙ counts k less

get-put : (before : List ℕ) (x k : ℕ) → k < length before → get_or (before ++ x ∷ []) k 0 ≡ get_or before k 0
get-put [] x k less = absurd (omega (arith, less))
get-put (y ∷ ys) x zero less = refl
get-put (y ∷ ys) x (suc k) less = get-put ys x k (omega (arith, less))

get-last : (before : List ℕ) (x : ℕ) → get_or (before ++ x ∷ []) (length before) 0 ≡ x
get-last [] x = refl
get-last (y ∷ ys) x = get-last ys x

pub counted-put : (runs : List Run) (before : List ℕ) (i x : ℕ) → length before ≡ i → AreCountedTo i runs before → x ≡ count_numbers (take i runs)
    → AreCountedTo (i + 1) runs (before ++ x ∷ [])
counted-put runs before i x long counts is k less =
    ⊎_elim
    (λ (old : k < i). get-put before x k (omega (arith, old, long)) ∙ counts k old)
    (λ upto. let same : k ≡ length before = omega (arith, less, upto, long) in
    ap (λ (n : ℕ). get_or (before ++ x ∷ []) n 0) same ∙ get-last before x ∙ is ∙ ap (λ (n : ℕ). count_numbers (take n runs)) (omega (arith, same, long)))
    (cases_lt k i)

-- the runs in front are the same, and so are the counts before them
taken-twice : (runs : List Run) (k i : ℕ) → k ≤ i → take k (take i runs) ≡ take k runs
taken-twice runs zero i less = refl
taken-twice runs (suc k) zero less = absurd (omega (arith, less))
taken-twice [] (suc k) (suc i) less = refl
taken-twice (r ∷ rs) (suc k) (suc i) less = ap (λ (xs : List Run). r ∷ xs) (taken-twice rs k i (omega (arith, less)))

pub counted-kept : (old new : List Run) (before : List ℕ) (i : ℕ) → take i new ≡ take i old → i ≤ length old → AreCountedTo (length old) old before
    → AreCountedTo i new before
counted-kept old new before i same within counts k less =
    counts k (omega (arith, less, within)) ∙ ap (λ (xs : List Run). count_numbers xs)
    (sym (taken-twice old k i (omega (arith, less))) ∙ ap (λ (xs : List Run). take k xs) (sym same) ∙ taken-twice new k i (omega (arith, less)))

pub within-kept : (old new : List Run) (i : ℕ) → take i new ≡ take i old → i ≤ length old → i ≤ length new
within-kept old new zero same within = omega arith
within-kept [] new (suc i) same within = absurd (omega (arith, within))
within-kept (x ∷ xs) [] (suc i) same within = absurd (cc)
within-kept (x ∷ xs) (y ∷ ys) (suc i) same within =
    let rest : take i ys ≡ take i xs = cc in
    let more = within-kept xs ys i rest (omega (arith, within)) in omega (arith, more)

pub front-insert : (runs : List Run) (i k : ℕ) (v : Run) → k ≤ i → i ≤ length runs → take k (insert runs i v) ≡ take k runs
front-insert runs i zero v less within = refl
front-insert runs zero (suc k) v less within = absurd (omega (arith, less))
front-insert [] (suc i) (suc k) v less within = absurd (omega (arith, within))
front-insert (x ∷ xs) (suc i) (suc k) v less within = ap (λ (ys : List Run). x ∷ ys) (front-insert xs i k v (omega (arith, less)) (omega (arith, within)))

pub front-set : (runs : List Run) (i k : ℕ) (v : Run) → k ≤ i → take k (set runs i v) ≡ take k runs
front-set runs i zero v less = refl
front-set runs zero (suc k) v less = absurd (omega (arith, less))
front-set [] (suc i) (suc k) v less = refl
front-set (x ∷ xs) (suc i) (suc k) v less = ap (λ (ys : List Run). x ∷ ys) (front-set xs i k v (omega (arith, less)))

pub front-remove : (runs : List Run) (i k : ℕ) → k ≤ i → take k (remove runs i) ≡ take k runs
front-remove runs i zero less = refl
front-remove runs zero (suc k) less = absurd (omega (arith, less))
front-remove [] (suc i) (suc k) less = refl
front-remove (x ∷ xs) (suc i) (suc k) less = ap (λ (ys : List Run). x ∷ ys) (front-remove xs i k (omega (arith, less)))

length-kept : (runs : List Run) (i : ℕ) (v : Run) → length (set runs i v) ≡ length runs
length-kept [] i v = refl
length-kept (x ∷ xs) zero v = refl
length-kept (x ∷ xs) (suc i) v = let rest = length-kept xs i v in omega (arith, rest)

pub front-cut : (runs : List Run) (i : ℕ) (v w : Run) → i < length runs → take i (insert (set runs i v) (i + 1) w) ≡ take i runs
front-cut runs i v w within =
    front-insert (set runs i v) (i + 1) i w (omega arith) (omega (arith, within, length-kept runs i v)) ∙ front-set runs i i v (omega arith)

-- what is read of a list doesn't depend on what is read past its end
pub get-any : (counts : List ℕ) (i d e : ℕ) → i < length counts → get_or counts i d ≡ get_or counts i e
get-any [] i d e within = absurd (omega (arith, within))
get-any (x ∷ xs) zero d e within = refl
get-any (x ∷ xs) (suc i) d e within = get-any xs i d e (omega (arith, within))

-- ---- what one set has beyond another
starts-above : (low : ℕ) (runs : List Run) (j : ℕ) (d : Run) → AreRunsFrom low runs → j < length runs → low ≤ (get_or runs j d).first
starts-above low [] j d up within = absurd (omega (arith, within))
starts-above low (r ∷ rs) zero d up within = up.0
starts-above low (r ∷ rs) (suc j) d up within = starts-above low rs j d (lower (r.last + 2) low rs (omega (arith, up.0, up.1)) up.2) (omega (arith, within))

pub starts-ascend : (low : ℕ) (runs : List Run) → AreRunsFrom low runs → IsNonDecreasingBy (λ (r : Run). r.first) runs
starts-ascend low [] up i j d less within = absurd (omega (arith, within))
starts-ascend low (r ∷ rs) up zero zero d less within = omega arith
starts-ascend low (r ∷ rs) up zero (suc j) d less within =
    let later = starts-above (r.last + 2) rs j d up.2 (omega (arith, within)) in omega (arith, later, up.1)
starts-ascend low (r ∷ rs) up (suc i) zero d less within = absurd (omega (arith, less))
starts-ascend low (r ∷ rs) up (suc i) (suc j) d less within = starts-ascend (r.last + 2) rs up.2 i j d (omega (arith, less)) (omega (arith, within))

-- The runs of a set, and where the counts of what it has beyond another leave the count at the low end.
pub record IsLastUpTo (a b : ℕ → Bool) (runs : List Run) (low index : ℕ) : Type 0 where
  pub apart : AreRunsFrom 0 runs
  pub has : (n : ℕ) → a n ≡ has_number runs n
  pub within : index ≤ length runs
  pub few : (k : ℕ) (d : Run) → k < index → count_below (λ n. a n && not (b n)) (get_or runs k d).first ≤ count_below (λ n. a n && not (b n)) low
  pub more : (k : ℕ) (d : Run) → index ≤ k → k < length runs
      → count_below (λ n. a n && not (b n)) low < count_below (λ n. a n && not (b n)) (get_or runs k d).first

not-in : (x y : Bool) → x ≡ false → (x && not y) ≡ false
not-in x y none = rw none refl

in-both : (x y : Bool) → not y ≡ false → (x && not y) ≡ false
in-both true y is = is
in-both false y is = refl

module _ (a b : ℕ → Bool) (runs : List Run) (low index : ℕ) (up : IsLastUpTo a b runs low index) where
  abbrev beyond : ℕ → Bool
  beyond n = a n && not (b n)

  -- of no run the first is up to the low end
  pub beyond-none : index ≡ 0 → (m : ℕ) → beyond m ≡ false
  beyond-none first m = by runs refl
    where
      by : (xs : List Run) → runs ≡ xs → beyond m ≡ false
      by [] e = not-in (a m) (b m) (up.has m ∙ ap (λ (rs : List Run). has_number rs m) e)
      by (r ∷ rs) e =
          let all : AreRunsFrom 0 (r ∷ rs) = subst (AreRunsFrom 0) e up.apart in
          let some : 0 < length runs = subst (λ (ys : List Run). 0 < length ys) (sym e) (omega arith) in
          let here : get_or runs 0 r ≡ r = ap (λ (ys : List Run). get_or ys 0 r) e in
          let more = subst (λ (q : Run). count_below beyond low < count_below beyond q.first) here (up.more 0 r (omega (arith, first)) some) in
          let none : count_below beyond r.first ≡ 0 =
          count-none beyond 0 r.first (omega arith) (λ k from below.
          not-in (a k) (b k) (up.has k ∙ ap (λ (ys : List Run). has_number ys k) e ∙ none-below r.first (r ∷ rs) k (omega arith, all.1, all.2) below)) in
          absurd (omega (arith, more, none))

  module _ (i : ℕ) (r : Run) (last : index ≡ i + 1) (e : slice_get runs i ≡ Some r) where
    pub beyond-ahead : (m : ℕ) → low ≤ m → m < r.first → beyond m ≡ false
    beyond-ahead m from below =
        let here : get_or runs i r ≡ r = get_or_from_slice_get runs i r r e in
        let few = subst (λ (q : Run). count_below beyond q.first ≤ count_below beyond low) here (up.few i r (omega (arith, last))) in
        none-between beyond low r.first few m from below

    pub beyond-in : (m : ℕ) → r.first ≤ m → m ≤ r.last → not (b m) ≡ true → beyond m ≡ true
    beyond-in m from to is = and_from (a m) (not (b m)) (up.has m ∙ has-at runs i r m e from to) is

    pub beyond-not : (m : ℕ) → not (b m) ≡ false → beyond m ≡ false
    beyond-not m is = in-both (a m) (b m) is

    -- the runs up to this one end at its end or before it
    ends-upto : (m : ℕ) → r.last < m → (k : ℕ) (d : Run) → k < index → (get_or runs k d).last < m
    ends-upto m past k d below =
        let here : get_or runs i d ≡ r = get_or_from_slice_get runs i r d e in
        let ends = subst (λ (q : Run). (get_or runs k d).last ≤ q.last) here
        (ends-ascend 0 runs up.apart k i d (omega (arith, below, last)) (slice_get_within runs i r e)) in
        omega (arith, ends, past)

    -- where the run has none from the low end on, none comes after it
    module _ (none : (m : ℕ) → low ≤ m → r.first ≤ m → m ≤ r.last → beyond m ≡ false) where
      ahead-or_in : (m : ℕ) → low ≤ m → m ≤ r.last → beyond m ≡ false
      ahead-or_in m from to = ⊎_elim (λ below. beyond-ahead m from below) (λ upto. none m from upto to) (cases_lt m r.first)

      behind-by : (o : Option Run) → slice_get runs index ≡ o → (m : ℕ) → low ≤ m → r.last < m → beyond m ≡ false
      behind-by None past m from behind = not-in (a m) (b m) (up.has m ∙ absent-past m runs index up.within (ends-upto m behind) past)
      behind-by (Some q) next m from behind =
          let there : get_or runs index q ≡ q = get_or_from_slice_get runs index q q next in
          let more = subst (λ (p : Run). count_below beyond low < count_below beyond p.first) there
          (up.more index q (omega arith) (slice_get_within runs index q next)) in
          absurd (⊎_elim
          (λ early. let fewer = count-ascends beyond q.first low (omega (arith, early)) in omega (arith, more, fewer))
          (λ upto.
          let same = count-none beyond low q.first upto (λ k first below.
          ⊎_elim
          (λ (past : r.last < k). not-in (a k) (b k) (up.has k ∙ absent-before k runs index up.within (ends-upto k past) q up.apart next below))
          (λ to. ahead-or_in k first to)
          (cases_lt r.last k)) in
          omega (arith, more, same))
          (cases_lt q.first low))

    -- what is sought among the numbers of the run that the other set doesn't have
    module _ (from to high : ℕ) (starts : (low ≤ from) × (r.first ≤ from) × ((m : ℕ) → low ≤ m → r.first ≤ m → from ≤ m))
        (ends : (to ≤ high) × (to ≤ r.last) × ((m : ℕ) → m ≤ high → m ≤ r.last → m ≤ to)) where
      beyond-some : (found : Option ℕ) → IfSome found (λ n. IsLeastIn (λ m. not (b m)) from to n) → IfSome found (λ n. IsLeastIn beyond low high n)
      beyond-some None least = tt
      beyond-some (Some n) least = (
        omega (arith, starts.0, least.0),
        omega (arith, ends.0, least.1),
        beyond-in n (omega (arith, starts.1, least.0)) (omega (arith, ends.1, least.1)) least.2,
        λ m first below. ⊎_elim
            (λ (ahead : m < r.first). beyond-ahead m first ahead)
            (λ upto. beyond-not m (least.3 m (starts.2 m first upto) below))
            (cases_lt m r.first),
      )

      beyond-nothing : (found : Option ℕ) → IfNone found (NonePasses (λ m. not (b m)) from to) → IfNone found (NonePasses beyond low high)
      beyond-nothing (Some n) none = tt
      beyond-nothing None none = λ m first upto.
          let inside : (k : ℕ) → low ≤ k → r.first ≤ k → k ≤ r.last → k ≤ high → beyond k ≡ false =
          λ k above started ended bounded. beyond-not k (none k (starts.2 k above started) (ends.2 k bounded ended)) in
          ⊎_elim
          (λ (behind : r.last < m). behind-by (λ k above started ended. inside k above started ended (omega (arith, ended, behind, upto)))
          (slice_get runs index) refl m first behind)
          (λ ended. ⊎_elim
          (λ (ahead : m < r.first). beyond-ahead m first ahead)
          (λ started. inside m first started ended upto)
          (cases_lt m r.first))
          (cases_lt r.last m)

      pub beyond-found : (found : Option ℕ) → IfSome found (λ n. IsLeastIn (λ m. not (b m)) from to n) → IfNone found (NonePasses (λ m. not (b m)) from to)
          → IfSome found (λ n. IsLeastIn beyond low high n) × IfNone found (NonePasses beyond low high)
      beyond-found found least none = (beyond-some found least, beyond-nothing found none)

-- the count of what one set has beyond another ascends with the runs
pub beyond-ascends : (a b : ℕ → Bool) → ((n : ℕ) → b n ≡ true → a n ≡ true) → (runs : List Run) → AreRunsFrom 0 runs
    → IsNonDecreasingBy (λ (r : Run). count_below a r.first - count_below b r.first) runs
beyond-ascends a b each runs up i j d less within =
    let first = count-beyond a b each (get_or runs i d).first in
    let last = count-beyond a b each (get_or runs j d).first in
    let starts = starts-ascend 0 runs up i j d less within in
    let more = count-ascends (λ n. a n && not (b n)) (get_or runs i d).first (get_or runs j d).first starts in
    omega (arith, first, last, more)

-- what `partition_point` finds by these counts
module _ (a b : ℕ → Bool) (each : (n : ℕ) → b n ≡ true → a n ≡ true) where
  pub beyond-point : (runs shown : List Run) (most i : ℕ) → shown ≡ runs
      → IsPartitionPoint (λ (r : Run). leb (count_below a r.first - count_below b r.first) most ≡ true)
      (λ (r : Run). leb (count_below a r.first - count_below b r.first) most ≡ false) shown i
      → IsPartitionPoint (λ (r : Run). count_below (λ n. a n && not (b n)) r.first ≤ most)
      (λ (r : Run). most < count_below (λ n. a n && not (b n)) r.first) runs i
  beyond-point runs shown most i same point =
      subst (λ (rs : List Run). IsPartitionPoint (λ (r : Run). count_below (λ n. a n && not (b n)) r.first ≤ most)
      (λ (r : Run). most < count_below (λ n. a n && not (b n)) r.first) rs i) same (
        λ k d from below.
            let is = count-beyond a b each (get_or shown k d).first in
            let few = leb-true (count_below a (get_or shown k d).first - count_below b (get_or shown k d).first) most (point.0 k d from below) in
            omega (arith, is, few),
        λ k d from below.
            let is = count-beyond a b each (get_or shown k d).first in
            let more = leb-false (count_below a (get_or shown k d).first - count_below b (get_or shown k d).first) most (point.1 k d from below) in
            omega (arith, is, more),
      )

  pub last-up : (runs : List Run) (low most index : ℕ) → AreRunsFrom 0 runs → ((n : ℕ) → a n ≡ has_number runs n)
      → most ≡ count_below a low - count_below b low → index ≤ length runs
      → IsPartitionPoint (λ (r : Run). count_below (λ n. a n && not (b n)) r.first ≤ most)
      (λ (r : Run). most < count_below (λ n. a n && not (b n)) r.first) runs index
      → IsLastUpTo a b runs low index
  last-up runs low most index apart has is within point =
      let same = is ∙ count-beyond a b each low in
      record {
        apart = apart;
        has = has;
        within = within;
        few = λ k d below. let few = point.0 k d (omega arith) below in omega (arith, same, few);
        more = λ k d from below. let more = point.1 k d from below in omega (arith, same, more);
      }
