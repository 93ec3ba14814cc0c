-- How many spans a span overlaps, told by where they begin and where they end.
use Rattle.std.proofs.Common.{◌≡◌, ℕ, ◌+◌, ◌<◌, ◌≤◌, Bool, true, false, ◌||◌, cond, List, [], ◌∷◌, ◌++◌}
use Rattle.std.proofs.Common.{zero, suc, length, ◌↔◌, IsTrue, inl, inr, refl, sym, ◌∙◌, ap, zero-add, arith}
use Rattle.std.proofs.lemmas.Bool.{cases_lt, lt-leb, le-leb, lt-ltb, ltb-true, ltb-false, and_left}
use Rattle.std.proofs.lemmas.List.Sorted.{sum_by-IsPermutation}
use Rattle.std.proofs.lemmas.List.Sums.{sum_by-append}
use Rattle.std.specs.List.{AllByRecursion, count_by, list_any}
use Rattle.std.specs.List.Sorted.{IsPartitionPoint}
use Rattle.std.specs.Prelude.{nat_lt, nat_le}
use Rattle.mlb_base.proofs.Lists.{count-cons}
use Rattle.ip_ranges.specs.declared.family.Family.{Family}
use Rattle.ip_ranges.specs.declared.family.Family.TheVariants.{V4, V6}
use Rattle.ip_ranges.specs.Values.{SpanValue, IsRange, same_family, overlaps}
use Rattle.ip_ranges.proofs.AddressLaws.{same_family-itself}
use Rattle.pool_config.specs.declared.bounds.Bounds.{Bounds}
use Rattle.pool_config.specs.Bounds.{lows_in, highs_in}
use Rattle.pool_config.specs.Meeting.{AreBoundsOf, bounds_of, begun_at, ended_below, meets_another}

count_yes : {X : Type 0} (p : X → Bool) (x : X) (xs : List X) → p x ≡ true → count_by p (x ∷ xs) ≡ 1 + count_by p xs
count_yes p x xs passes = count-cons p x xs ∙ ap (λ b. cond b 1 0 + count_by p xs) passes

count_no : {X : Type 0} (p : X → Bool) (x : X) (xs : List X) → p x ≡ false → count_by p (x ∷ xs) ≡ count_by p xs
count_no p x xs fails = count-cons p x xs ∙ ap (λ b. cond b 1 0 + count_by p xs) fails ∙ zero-add (count_by p xs)

same_sym : (f g : Family) → same_family f g ≡ same_family g f
same_sym V4 V4 = refl
same_sym V4 V6 = refl
same_sym V6 V4 = refl
same_sym V6 V6 = refl

-- a span of the family has begun, and has ended before or overlaps
one_counted : (s t : SpanValue) → s.low ≤ s.high → t.low ≤ t.high → same_family s.family t.family ≡ true
    → cond (nat_le t.low s.high) 1 0 ≡ cond (nat_lt t.high s.low) 1 0 + cond (overlaps s t) 1 0
one_counted s t rises rises' same = go (nat_lt t.high s.low) refl
  where
    go : (b : Bool) → nat_lt t.high s.low ≡ b → cond (nat_le t.low s.high) 1 0 ≡ cond b 1 0 + cond (overlaps s t) 1 0
    go true e =
        let before : t.high < s.low = ltb-true _ _ e in
        let yes : nat_le t.low s.high ≡ true = le-leb t.low s.high (omega arith) in
        let no : nat_le s.low t.high ≡ false = lt-leb s.low t.high before in
        rw (same, yes, no) refl
    go false e =
        let yes : nat_le s.low t.high ≡ true = le-leb s.low t.high (ltb-false _ _ e) in
        rw (same, yes) (sym (zero-add (cond (nat_le t.low s.high) 1 0)))

counted : (s : SpanValue) → s.low ≤ s.high → (spans : List SpanValue) → AllByRecursion IsRange spans
    → count_by (λ low. nat_le low s.high) (lows_in s.family spans)
    ≡ count_by (λ high. nat_lt high s.low) (highs_in s.family spans) + count_by (overlaps s) spans
counted s rises [] all = refl
counted s rises (t ∷ ts) all = go (same_family t.family s.family) refl (counted s rises ts all.1)
  where
    go : (b : Bool) → same_family t.family s.family ≡ b
        → count_by (λ low. nat_le low s.high) (lows_in s.family ts) ≡ count_by (λ high. nat_lt high s.low) (highs_in s.family ts) + count_by (overlaps s) ts
        → count_by (λ low. nat_le low s.high) (lows_in s.family (t ∷ ts))
        ≡ count_by (λ high. nat_lt high s.low) (highs_in s.family (t ∷ ts)) + count_by (overlaps s) (t ∷ ts)
    go true e rest =
        let lows : count_by (λ low. nat_le low s.high) (lows_in s.family (t ∷ ts))
        ≡ cond (nat_le t.low s.high) 1 0 + count_by (λ low. nat_le low s.high) (lows_in s.family ts) =
        rw e (count-cons (λ low. nat_le low s.high) t.low (lows_in s.family ts)) in
        let highs : count_by (λ high. nat_lt high s.low) (highs_in s.family (t ∷ ts))
        ≡ cond (nat_lt t.high s.low) 1 0 + count_by (λ high. nat_lt high s.low) (highs_in s.family ts) =
        rw e (count-cons (λ high. nat_lt high s.low) t.high (highs_in s.family ts)) in
        let met = count-cons (overlaps s) t ts in
        let one = one_counted s t rises all.0.0 (same_sym s.family t.family ∙ e) in
        omega arith
    go false e rest =
        let lows : count_by (λ low. nat_le low s.high) (lows_in s.family (t ∷ ts)) ≡ count_by (λ low. nat_le low s.high) (lows_in s.family ts) = rw e refl in
        let highs : count_by (λ high. nat_lt high s.low) (highs_in s.family (t ∷ ts)) ≡ count_by (λ high. nat_lt high s.low) (highs_in s.family ts) =
        rw e refl in
        let met = count_no (overlaps s) t ts (and_left _ _ (same_sym s.family t.family ∙ e)) in
        omega arith

none_counted : {X : Type 0} (p : X → Bool) (xs : List X) → count_by p xs ≡ 0 → list_any p xs ≡ false
none_counted p [] none = refl
none_counted {X} p (x ∷ xs) none = go (p x) (count-cons p x xs) (none_counted p xs)
  where
    go : (b : Bool) → count_by p (x ∷ xs) ≡ cond b 1 0 + count_by p xs → (count_by p xs ≡ 0 → list_any p xs ≡ false) → (b || list_any p xs) ≡ false
    go true e rest = absurd (omega arith)
    go false e rest = rest (omega arith)

overlaps-itself : (s : SpanValue) → s.low ≤ s.high → overlaps s s ≡ true
overlaps-itself s rises = rw (same_family-itself s.family, le-leb s.low s.high rises) refl

-- where a span overlaps no more than itself, it overlaps none after it
alone : (s : SpanValue) → s.low ≤ s.high → (before behind : List SpanValue) → count_by (overlaps s) (before ++ s ∷ behind) ≤ 1
    → list_any (overlaps s) behind ≡ false
alone s rises before behind few =
    let one : SpanValue → ℕ = λ t. cond (overlaps s t) 1 0 in
    let all : count_by (overlaps s) (before ++ s ∷ behind) ≡ count_by (overlaps s) before + count_by (overlaps s) (s ∷ behind) =
    sum_by-append one before (s ∷ behind) in
    let here = count_yes (overlaps s) s behind (overlaps-itself s rises) in
    none_counted (overlaps s) behind (omega arith)

range_at : (before : List SpanValue) (s : SpanValue) (behind : List SpanValue) → AllByRecursion IsRange (before ++ s ∷ behind) → IsRange s
range_at [] s behind all = all.0
range_at (x ∷ xs) s behind all = range_at xs s behind all.1

-- the bounds show how many spans a span overlaps
pub met_counts : (spans : List SpanValue) (bounds : Bounds) → AreBoundsOf spans bounds → (s : SpanValue) → s.low ≤ s.high
    → IsTrue (meets_another bounds s) ↔ (1 < count_by (overlaps s) spans)
met_counts spans bounds are s rises =
    let begun = sum_by-IsPermutation (λ low. cond (nat_le low s.high) 1 0) _ _ (are.lows s.family) in
    let ended = sum_by-IsPermutation (λ high. cond (nat_lt high s.low) 1 0) _ _ (are.highs s.family) in
    let all = counted s rises spans are.ranges in (
      λ more. let later : ended_below s.low (bounds_of s.family bounds) + 1 < begun_at s.high (bounds_of s.family bounds) = ltb-true _ _ more in omega arith,
      λ more. lt-ltb _ _ (omega arith),
    )

pub alone_behind : (before : List SpanValue) (s : SpanValue) (behind : List SpanValue) (bounds : Bounds) → AreBoundsOf (before ++ s ∷ behind) bounds
    → meets_another bounds s ≡ false → list_any (overlaps s) behind ≡ false
alone_behind before s behind bounds are none =
    let range : IsRange s = range_at before s behind are.ranges in
    let few : count_by (overlaps s) (before ++ s ∷ behind) ≤ 1 =
    elim (cases_lt 1 (count_by (overlaps s) (before ++ s ∷ behind))) [
      | inl more ↦ absurd (let met : meets_another bounds s ≡ true = (met_counts _ bounds are s range.0).1 more in cc)
      | inr few ↦ few
    ] in
    alone s range.0 before behind few

-- the point that parts the numbers is how many pass
pub point_counts : (p : ℕ → Bool) (xs : List ℕ) (i : ℕ) → i ≤ length xs → IsPartitionPoint (λ x. p x ≡ true) (λ x. p x ≡ false) xs i → i ≡ count_by p xs
point_counts p [] i within point = omega arith
point_counts p (x ∷ xs) zero within point =
    let all = count_no p x xs (point.1 0 0 (omega arith) (omega arith)) in
    let rest : 0 ≡ count_by p xs =
    point_counts p xs 0 (omega arith) (λ k d from below. absurd (omega arith), λ k d from below. point.1 (suc k) d (omega arith) (omega arith)) in
    rest ∙ sym all
point_counts p (x ∷ xs) (suc i) within point =
    let all = count_yes p x xs (point.0 0 0 (omega arith) (omega arith)) in
    let rest : i ≡ count_by p xs =
    point_counts p xs i (omega arith)
    (λ k d from below. point.0 (suc k) d (omega arith) (omega arith), λ k d from below. point.1 (suc k) d (omega arith) (omega arith)) in
    omega arith
