-- Runs with a number more, and with one less.
use Rattle.std.proofs.Common.{◌≡◌, ◌≤◌, ◌<◌, ◌+◌, ◌-◌, ℕ, zero, suc, Bool, true, false, cond, ◌&&◌, ◌||◌, eqb, leb}
use Rattle.std.proofs.Common.{List, [], ◌∷◌, ◌++◌, length, get_or, take, drop, Some, None, refl, sym, ap, subst, arith}
use Rattle.std.proofs.lemmas.Bool.Decides.{nat_tests}
use Rattle.std.proofs.lemmas.Bool.{or_from, or_left, and_from, and_right, lt-leb, le-leb}
use Rattle.std.proofs.lemmas.List.{set_split}
use Rattle.std.proofs.lemmas.Option.{slice_get_within}
use Rattle.std.proofs.Math.ListN.{set}
use Rattle.std.specs.List.{slice_get, insert, remove}
use Rattle.number_sets.specs.declared.runs.Run.{Run}
use Rattle.number_sets.specs.RunLists.{is_in_run, has_number, AreRunsFrom, IsFound, IsSetTo}
use Rattle.number_sets.proofs.RunLaws.{lower, none-below, set-behind, set-same, drop-at, drop-past, apart-at}
use Rattle.number_sets.proofs.RunLaws.{has-at, absent-past, absent-before, absent-after, ends-before, ends-from}

abbrev run : ℕ → ℕ → Run
run first last = record { first = first; last = last }

alone-has : (n m : ℕ) (h : Bool) → ((leb n m && leb m n) || h) ≡ cond (eqb m n) true h
alone-has n m h = grind (arith, nat_tests)

first-has : (n f l m : ℕ) (h : Bool) → f ≡ n + 1 → f ≤ l → ((leb n m && leb m l) || h) ≡ cond (eqb m n) true ((leb f m && leb m l) || h)
first-has n f l m h e within = grind (arith, nat_tests)

last-has : (n f l m : ℕ) (h : Bool) → n ≡ l + 1 → f ≤ l → ((leb f m && leb m n) || h) ≡ cond (eqb m n) true ((leb f m && leb m l) || h)
last-has n f l m h e within = grind (arith, nat_tests)

join-has : (n f l g k m : ℕ) (h : Bool) → n ≡ l + 1 → g ≡ n + 1 → f ≤ l → g ≤ k
    → ((leb f m && leb m k) || h) ≡ cond (eqb m n) true ((leb f m && leb m l) || ((leb g m && leb m k) || h))
join-has n f l g k m h e s within later = grind (arith, nat_tests)

same-has : (n f l m : ℕ) (h : Bool) → f ≤ n → n ≤ l → ((leb f m && leb m l) || h) ≡ cond (eqb m n) true ((leb f m && leb m l) || h)
same-has n f l m h from to = grind (arith, nat_tests)

single-out : (n m : ℕ) (h : Bool) → (m ≡ n → h ≡ false) → h ≡ cond (eqb m n) false ((leb n m && leb m n) || h)
single-out n m h none = grind (arith, nat_tests)

first-out : (n l m : ℕ) (h : Bool) → n < l → (m ≡ n → h ≡ false) → ((leb (n + 1) m && leb m l) || h) ≡ cond (eqb m n) false ((leb n m && leb m l) || h)
first-out n l m h less none = grind (arith, nat_tests)

last-out : (n f m : ℕ) (h : Bool) → f < n → (m ≡ n → h ≡ false) → ((leb f m && leb m (n - 1)) || h) ≡ cond (eqb m n) false ((leb f m && leb m n) || h)
last-out n f m h less none = grind (arith, nat_tests)

cut-out : (n f l m : ℕ) (h : Bool) → f < n → n < l → (m ≡ n → h ≡ false)
    → ((leb f m && leb m (n - 1)) || ((leb (n + 1) m && leb m l) || h)) ≡ cond (eqb m n) false ((leb f m && leb m l) || h)
cut-out n f l m h less more none = grind (arith, nat_tests)

-- edits of a list, each in front of what stands after the index
joined : (runs : List Run) (i : ℕ) (v : Run) → i < length runs → remove (set runs i v) (i + 1) ≡ take i runs ++ v ∷ drop (suc (suc i)) runs
joined [] i v within = absurd (omega (arith, within))
joined (x ∷ xs) zero v within = refl
joined (x ∷ xs) (suc i) v within =
    let next : suc i + 1 ≡ suc (i + 1) = omega arith in rw next (ap (λ (rs : List Run). x ∷ rs) (joined xs i v (omega (arith, within))))

halved : (runs : List Run) (i : ℕ) (v w : Run) → i < length runs → insert (set runs i v) (i + 1) w ≡ take i runs ++ v ∷ w ∷ drop (suc i) runs
halved [] i v w within = absurd (omega (arith, within))
halved (x ∷ xs) zero v w within = refl
halved (x ∷ xs) (suc i) v w within =
    let next : suc i + 1 ≡ suc (i + 1) = omega arith in rw next (ap (λ (rs : List Run). x ∷ rs) (halved xs i v w (omega (arith, within))))

-- one run more
alone : (n low : ℕ) (rest : List Run) → low ≤ n → AreRunsFrom (n + 2) rest → IsSetTo low n true rest (run n n ∷ rest)
alone n low rest from up =
    let none = none-below (n + 2) rest n up (omega arith) in
    record {
      has = λ m. alone-has n m (has_number rest m);
      apart = (from, omega arith, up);
      counted = rw none (omega arith);
    }

-- a number in front of the first run
grown-first : (n low : ℕ) (r : Run) (rs : List Run) → low ≤ n → r.first ≡ n + 1 → AreRunsFrom low (r ∷ rs) → IsSetTo low n true (r ∷ rs) (run n r.last ∷ rs)
grown-first n low r rs from e up =
    let none : has_number (r ∷ rs) n ≡ false = none-below r.first (r ∷ rs) n (omega arith, up.1, up.2) (omega (arith, e)) in
    record {
      has = λ m. first-has n r.first r.last m (has_number rs m) e up.1;
      apart = (from, omega (arith, e, up.1), up.2);
      counted = rw none (omega (arith, e, up.1));
    }

none-after : (n low : ℕ) (r : Run) (rs : List Run) → n ≡ r.last + 1 → AreRunsFrom low (r ∷ rs) → has_number (r ∷ rs) n ≡ false
none-after n low r rs e up =
    or_from (is_in_run n r) (has_number rs n) (and_right (leb r.first n) (leb n r.last) (lt-leb n r.last (omega (arith, e))))
    (none-below (r.last + 2) rs n up.2 (omega (arith, e)))

-- a number after the first run, which doesn't touch the next
grown-last : (n low : ℕ) (r : Run) (rs : List Run) → n ≡ r.last + 1 → AreRunsFrom low (r ∷ rs) → AreRunsFrom (n + 2) rs
    → IsSetTo low n true (r ∷ rs) (run r.first n ∷ rs)
grown-last n low r rs e up behind =
    let none = none-after n low r rs e up in
    record {
      has = λ m. last-has n r.first r.last m (has_number rs m) e up.1;
      apart = (up.0, omega (arith, e, up.1), behind);
      counted = rw none (omega (arith, e, up.1));
    }

-- a number between two runs
grown-join : (n low : ℕ) (r q : Run) (rs : List Run) → n ≡ r.last + 1 → q.first ≡ n + 1 → AreRunsFrom low (r ∷ q ∷ rs)
    → IsSetTo low n true (r ∷ q ∷ rs) (run r.first q.last ∷ rs)
grown-join n low r q rs e s up =
    let none = none-after n low r (q ∷ rs) e up in
    record {
      has = λ m. join-has n r.first r.last q.first q.last m (has_number rs m) e s up.1 up.2.1;
      apart = (up.0, omega (arith, e, s, up.1, up.2.1), up.2.2);
      counted = rw none (omega (arith, e, s, up.1, up.2.1));
    }

none-later : (n low : ℕ) (r : Run) (rs : List Run) → n ≤ r.last → AreRunsFrom low (r ∷ rs) → (m : ℕ) → m ≡ n → has_number rs m ≡ false
none-later n low r rs to up m e = none-below (r.last + 2) rs m up.2 (omega (arith, e, to))

here : (n : ℕ) (r : Run) (rs : List Run) → r.first ≤ n → n ≤ r.last → has_number (r ∷ rs) n ≡ true
here n r rs from to = or_left (is_in_run n r) (has_number rs n) (and_from (leb r.first n) (leb n r.last) (le-leb r.first n from) (le-leb n r.last to))

-- the only number of the first run goes
cut-single : (n low : ℕ) (r : Run) (rs : List Run) → r.first ≡ n → r.last ≡ n → AreRunsFrom low (r ∷ rs) → IsSetTo low n false (r ∷ rs) rs
cut-single n low r rs e s up =
    let is = here n r rs (omega (arith, e)) (omega (arith, s)) in
    record {
      has = λ m. rw (e, s) (single-out n m (has_number rs m) (none-later n low r rs (omega (arith, s)) up m));
      apart = lower (r.last + 2) low rs (omega (arith, up.0, up.1)) up.2;
      counted = rw is (omega (arith, e, s));
    }

-- its first number
cut-first : (n low : ℕ) (r : Run) (rs : List Run) → r.first ≡ n → n < r.last → AreRunsFrom low (r ∷ rs) → IsSetTo low n false (r ∷ rs) (run (n + 1) r.last ∷ rs)
cut-first n low r rs e less up =
    let is = here n r rs (omega (arith, e)) (omega (arith, less)) in
    record {
      has = λ m. rw e (first-out n r.last m (has_number rs m) less (none-later n low r rs (omega (arith, less)) up m));
      apart = (omega (arith, e, up.0), omega (arith, less), up.2);
      counted = rw is (omega (arith, e, less));
    }

-- its last number
cut-last : (n low : ℕ) (r : Run) (rs : List Run) → r.last ≡ n → r.first < n → AreRunsFrom low (r ∷ rs) → IsSetTo low n false (r ∷ rs) (run r.first (n - 1) ∷ rs)
cut-last n low r rs e less up =
    let is = here n r rs (omega (arith, less)) (omega (arith, e)) in
    record {
      has = λ m. rw e (last-out n r.first m (has_number rs m) less (none-later n low r rs (omega (arith, e)) up m));
      apart = (up.0, omega (arith, less), lower (r.last + 2) (n - 1 + 2) rs (omega (arith, e, less)) up.2);
      counted = rw is (omega (arith, e, less));
    }

-- one between its first and its last
cut-middle : (n low : ℕ) (r : Run) (rs : List Run) → r.first < n → n < r.last → AreRunsFrom low (r ∷ rs)
    → IsSetTo low n false (r ∷ rs) (run r.first (n - 1) ∷ run (n + 1) r.last ∷ rs)
cut-middle n low r rs from to up =
    let is = here n r rs (omega (arith, from)) (omega (arith, to)) in
    record {
      has = λ m. cut-out n r.first r.last m (has_number rs m) from to (none-later n low r rs (omega (arith, to)) up m);
      apart = (up.0, omega (arith, from), (omega (arith, from), omega (arith, to), up.2));
      counted = rw is (omega (arith, from, to));
    }

-- an edit of what stands from the index on
module _ (n bound : ℕ) (flag : Bool) (runs : List Run) (i : ℕ) (near : bound ≤ n + 1) (within : i ≤ length runs) (up : AreRunsFrom 0 runs)
    (before : (k : ℕ) (d : Run) → k < i → (get_or runs k d).last + 2 ≤ bound) where
  edit-at : (r : Run) (new : List Run) → slice_get runs i ≡ Some r
      → ((l : ℕ) → l ≤ bound → AreRunsFrom l (r ∷ drop (suc i) runs) → IsSetTo l n flag (r ∷ drop (suc i) runs) new)
      → IsSetTo 0 n flag runs (take i runs ++ new)
  edit-at r new e each =
      set-behind n bound flag runs new i 0 near (omega arith) within before up
      (subst (λ (rest : List Run). (l : ℕ) → l ≤ bound → AreRunsFrom l rest → IsSetTo l n flag rest new) (sym (drop-at runs i r e)) each)

module _ (n : ℕ) (runs : List Run) (i : ℕ) (found : IsFound (n - 1) runs i) where
  before-put : (k : ℕ) (d : Run) → k < i → (get_or runs k d).last + 2 ≤ n
  before-put k d below = let ends = found.point.0 k d (omega arith) below in omega (arith, ends)

  less-put : (k : ℕ) (d : Run) → k < i → (get_or runs k d).last < n
  less-put k d below = let ends = before-put k d below in omega (arith, ends)

  put-at : (r : Run) (new : List Run) → slice_get runs i ≡ Some r
      → ((l : ℕ) → l ≤ n → AreRunsFrom l (r ∷ drop (suc i) runs) → IsSetTo l n true (r ∷ drop (suc i) runs) new) → IsSetTo 0 n true runs (take i runs ++ new)
  put-at = edit-at n n true runs i (omega arith) found.within found.apart before-put

  pub put-end : slice_get runs i ≡ None → IsSetTo 0 n true runs (insert runs i (run n n))
  put-end e =
      set-behind n n true runs (run n n ∷ drop i runs) i 0 (omega arith) (omega arith) found.within before-put found.apart
      (λ l less behind. alone n l (drop i runs) less (subst (AreRunsFrom (n + 2)) (sym (drop-past runs i e)) tt))

  pub put-end-absent : slice_get runs i ≡ None → has_number runs n ≡ false
  put-end-absent e = absent-past n runs i found.within less-put e

  module _ (r : Run) (e : slice_get runs i ≡ Some r) where
    pub put-new : 1 < r.first - n → IsSetTo 0 n true runs (insert runs i (run n n))
    put-new far =
        subst (λ (rest : List Run). IsSetTo 0 n true runs (take i runs ++ run n n ∷ rest)) (sym (drop-at runs i r e))
        (put-at r (run n n ∷ r ∷ drop (suc i) runs) e
        (λ l less all. alone n l (r ∷ drop (suc i) runs) less (omega (arith, far), all.1, all.2)))

    pub put-first : r.first - n ≤ 1 → n < r.first → IsSetTo 0 n true runs (set runs i (run n r.last))
    put-first near less =
        subst (IsSetTo 0 n true runs) (sym (set_split runs i (run n r.last) (slice_get_within runs i r e)))
        (put-at r (run n r.last ∷ drop (suc i) runs) e
        (λ l from all. grown-first n l r (drop (suc i) runs) from (omega (arith, near, less)) all))

    pub put-front-absent : n < r.first → has_number runs n ≡ false
    put-front-absent less = absent-before n runs i found.within less-put r found.apart e less

    pub put-same : r.first ≤ n → n ≤ r.last → IsSetTo 0 n true runs runs
    put-same from to = set-same n true runs found.apart (has-at runs i r n e from to)

    pub put-last-ends : r.last < n → r.last + 1 ≡ n
    put-last-ends less = let ends = ends-from (n - 1) runs i r found.point e in omega (arith, ends, less)

    pub put-last-absent : r.last < n → has_number runs n ≡ false
    put-last-absent less = let ends = put-last-ends less in absent-after n runs i found.within less-put r found.apart e (omega (arith, ends))

    module _ (ends : r.last + 1 ≡ n) where
      behind : AreRunsFrom (n + 1) (drop (suc i) runs)
      behind = let all = apart-at runs i r found.apart e in lower (r.last + 2) (n + 1) (drop (suc i) runs) (omega (arith, ends)) all.2

      last-at : AreRunsFrom (n + 2) (drop (suc i) runs) → IsSetTo 0 n true runs (set runs i (run r.first n))
      last-at far =
          subst (IsSetTo 0 n true runs) (sym (set_split runs i (run r.first n) (slice_get_within runs i r e)))
          (put-at r (run r.first n ∷ drop (suc i) runs) e
          (λ l from all. grown-last n l r (drop (suc i) runs) (omega (arith, ends)) all far))

      -- no run stands after, or one that doesn't touch the number
      pub put-last-end : slice_get runs (i + 1) ≡ None → IsSetTo 0 n true runs (set runs i (run r.first n))
      put-last-end none =
          let one : i + 1 ≡ suc i = omega arith in
          last-at (subst (AreRunsFrom (n + 2)) (sym (drop-past runs (suc i) (rw one at none))) tt)

      pub put-last : (q : Run) → slice_get runs (i + 1) ≡ Some q → 1 < q.first - n → IsSetTo 0 n true runs (set runs i (run r.first n))
      put-last q next far =
          let one : i + 1 ≡ suc i = omega arith in
          let all = apart-at runs (suc i) q found.apart (rw one at next) in
          last-at (subst (AreRunsFrom (n + 2)) (sym (drop-at runs (suc i) q (rw one at next))) (omega (arith, far), all.1, all.2))

      pub put-join : (q : Run) → slice_get runs (i + 1) ≡ Some q → q.first - n ≤ 1 → IsSetTo 0 n true runs (remove (set runs i (run r.first q.last)) (i + 1))
      put-join q next near =
          let one : i + 1 ≡ suc i = omega arith in
          let at_next : slice_get runs (suc i) ≡ Some q = rw one at next in
          let split : drop (suc i) runs ≡ q ∷ drop (suc (suc i)) runs = drop-at runs (suc i) q at_next in
          let from : AreRunsFrom (n + 1) (q ∷ drop (suc (suc i)) runs) = subst (AreRunsFrom (n + 1)) split behind in
          subst (IsSetTo 0 n true runs) (sym (joined runs i (run r.first q.last) (slice_get_within runs i r e)))
          (put-at r (run r.first q.last ∷ drop (suc (suc i)) runs) e
          (λ l less.
          subst (λ (rest : List Run). AreRunsFrom l (r ∷ rest) → IsSetTo l n true (r ∷ rest) (run r.first q.last ∷ drop (suc (suc i)) runs)) (sym split)
          (λ all. grown-join n l r q (drop (suc (suc i)) runs) (omega (arith, ends)) (omega (arith, near, from.0)) all)))

module _ (n : ℕ) (runs : List Run) (i : ℕ) (found : IsFound n runs i) where
  before-cut : (k : ℕ) (d : Run) → k < i → (get_or runs k d).last + 2 ≤ n + 1
  before-cut k d below = let ends = found.point.0 k d (omega arith) below in omega (arith, ends)

  pub past-absent : slice_get runs i ≡ None → has_number runs n ≡ false
  past-absent e = absent-past n runs i found.within (ends-before n runs i found.point n (omega arith)) e

  module _ (r : Run) (e : slice_get runs i ≡ Some r) where
    pub front-absent : n < r.first → has_number runs n ≡ false
    front-absent less = absent-before n runs i found.within (ends-before n runs i found.point n (omega arith)) r found.apart e less

    pub there : r.first ≤ n → has_number runs n ≡ true
    there from = has-at runs i r n e from (ends-from n runs i r found.point e)

    cut-at : (new : List Run) → ((l : ℕ) → l ≤ n + 1 → AreRunsFrom l (r ∷ drop (suc i) runs) → IsSetTo l n false (r ∷ drop (suc i) runs) new)
        → IsSetTo 0 n false runs (take i runs ++ new)
    cut-at new = edit-at n (n + 1) false runs i (omega arith) found.within found.apart before-cut r new e

    pub take-single : r.first ≤ n → r.first ≡ r.last → IsSetTo 0 n false runs (remove runs i)
    take-single from same =
        let to = ends-from n runs i r found.point e in
        cut-at (drop (suc i) runs) (λ l less all. cut-single n l r (drop (suc i) runs) (omega (arith, from, same, to)) (omega (arith, from, same, to)) all)

    pub take-first : n ≡ r.first → (r.first ≡ r.last → ⊥) → IsSetTo 0 n false runs (set runs i (run (n + 1) r.last))
    take-first same more =
        let to = ends-from n runs i r found.point e in
        subst (IsSetTo 0 n false runs) (sym (set_split runs i (run (n + 1) r.last) (slice_get_within runs i r e)))
        (cut-at (run (n + 1) r.last ∷ drop (suc i) runs)
        (λ l less all. cut-first n l r (drop (suc i) runs) (omega (arith, same)) (omega (arith, same, more, to)) all))

    pub take-last : r.first < n → r.last ≤ n → IsSetTo 0 n false runs (set runs i (run r.first (n - 1)))
    take-last from past =
        let to = ends-from n runs i r found.point e in
        subst (IsSetTo 0 n false runs) (sym (set_split runs i (run r.first (n - 1)) (slice_get_within runs i r e)))
        (cut-at (run r.first (n - 1) ∷ drop (suc i) runs) (λ l less all. cut-last n l r (drop (suc i) runs) (omega (arith, past, to)) from all))

    pub take-middle : r.first < n → n < r.last → IsSetTo 0 n false runs (insert (set runs i (run r.first (n - 1))) (i + 1) (run (n + 1) r.last))
    take-middle from to =
        subst (IsSetTo 0 n false runs) (sym (halved runs i (run r.first (n - 1)) (run (n + 1) r.last) (slice_get_within runs i r e)))
        (cut-at (run r.first (n - 1) ∷ run (n + 1) r.last ∷ drop (suc i) runs) (λ l less all. cut-middle n l r (drop (suc i) runs) from to all))
