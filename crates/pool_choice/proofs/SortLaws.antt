-- Lists that are sorted item by item: they have the same items, and ascend; and the one list of the items that ascends.
use Rattle.std.proofs.Common.{◌≡◌, ◌≢◌, zero, suc, Bool, true, false, cond, get_or, List, [], ◌∷◌, Ordering, Less, Equal, Greater, All}
use Rattle.std.proofs.Common.{AllPairs, Contains, IsPermutation, IsSorted, ◌⊎◌, inl, inr, ⊎_elim, refl, sym, ap, subst, ◌∙◌, arith}
use Rattle.std.proofs.lemmas.Bool.{true≢false}
use Rattle.std.proofs.lemmas.List.Kept.{AllPairs-cons}
use Rattle.std.proofs.lemmas.List.MinMax.{ranks_by}
use Rattle.std.proofs.lemmas.List.Sorted.{sorted_far, Contains-permutation, IsPermutation-sym}
use Rattle.std.proofs.lemmas.Map.Keys.{IsDistinct-IsPermutation}
use Rattle.std.proofs.lemmas.Map.Lookups.{CmpEqualImpliesEq}
use Rattle.std.proofs.lemmas.Map.Made.{AllPairs-from_IsDistinct, IsDistinct-from_AllPairs}
use Rattle.std.specs.Bool.{Decides}
use Rattle.std.specs.Cmp.{IsTotalOrder, Equal-is}
use Rattle.std.specs.List.{AllByRecursion}
use Rattle.std.specs.List.Sorted.{IsStrictlySortedBy}
use Rattle.std.specs.Ordering.{is_lt, is_eq, ordering_reverse}
use Rattle.mlb_base.proofs.Among.{contains-none, contains-cons, contains-first, contains-later}
use Rattle.pool_choice.specs.Sorted.{placed, sorted}

-- ---- along the list, and at each place
module _ {X : Type 0} where
  pub all-at : (P : X → Type 0) (xs : List X) (x : X) → AllByRecursion P xs → Contains xs x → P x
  all-at P [] x all there = absurd (contains-none x there)
  all-at P (y ∷ ys) x all there = ⊎_elim (λ first. subst P first all.0) (λ later. all-at P ys x all.1 later) (contains-cons y ys x there)

  all-places : (P : X → Type 0) (xs : List X) → AllByRecursion P xs → All P xs
  all-places P [] all k d lt = absurd (omega arith)
  all-places P (x ∷ xs) all zero d lt = all.0
  all-places P (x ∷ xs) all (suc k) d lt = all-places P xs all.1 k d (omega arith)

  places-all : (P : X → Type 0) (xs : List X) → All P xs → AllByRecursion P xs
  places-all P [] all = tt
  places-all P (x ∷ xs) all = (all 0 x (omega arith), places-all P xs (λ k d lt. all (suc k) d (omega arith)))

  pub all-map : (P Q : X → Type 0) (xs : List X) → ((x : X) → P x → Q x) → AllByRecursion P xs → AllByRecursion Q xs
  all-map P Q [] each all = tt
  all-map P Q (x ∷ xs) each all = (each x all.0, all-map P Q xs each all.1)

  pub pairs-map : (P Q : X → X → Type 0) (xs : List X) → ((x y : X) → P x y → Q x y) → AllPairs P xs → AllPairs Q xs
  pairs-map P Q xs each pairs i j d lt within = each (get_or xs i d) (get_or xs j d) (pairs i j d lt within)

-- ---- the items that ascend, each before those after it
module _ {X : Type 0} (R : X → X → Ordering) where
  pub pairs-ascend : (xs : List X) → IsStrictlySortedBy R xs → AllPairs (λ x y. R x y ≡ Less) xs
  unfolding IsStrictlySortedBy
  pairs-ascend [] up = λ i j d lt within. absurd (omega arith)
  pairs-ascend (x ∷ xs) up = AllPairs-cons (λ a b. R a b ≡ Less) x xs (all-places (λ y. R x y ≡ Less) xs up.0) (pairs-ascend xs up.1)

  ascend-pairs : (xs : List X) → AllPairs (λ x y. R x y ≡ Less) xs → IsStrictlySortedBy R xs
  unfolding IsStrictlySortedBy
  ascend-pairs [] pairs = tt
  ascend-pairs (x ∷ xs) pairs = (
    places-all (λ y. R x y ≡ Less) xs (λ k d lt. pairs zero (suc k) d (omega arith) (omega arith)),
    ascend-pairs xs (λ i j d lt within. pairs (suc i) (suc j) d (omega arith) (omega arith)),
  )

  less_by : (r : Ordering) (x y : X) → IsTotalOrder R → R x y ≡ r → is_lt (R y x) ≡ false → (r ≡ Equal → ⊥) → r ≡ Less
  less_by Less x y o e back apart = refl
  less_by Equal x y o e back apart = absurd (apart refl)
  less_by Greater x y o e back apart =
      let turned : R y x ≡ Less = o.antisymm y x ∙ ap ordering_reverse e in
      absurd (true≢false (sym (ap is_lt turned) ∙ back))

  -- a sort of items that all differ ascends
  ascend-sorted : IsTotalOrder R → CmpEqualImpliesEq R → (xs : List X) → IsSorted R xs → AllPairs (λ x y. x ≢ y) xs → IsStrictlySortedBy R xs
  ascend-sorted o exact xs up apart =
      ascend-pairs xs
      (λ i j d lt within.
      let x = get_or xs i d in
      let y = get_or xs j d in
      let back : is_lt (R y x) ≡ false = sorted_far (λ a b. is_lt (R a b)) (ranks_by o (λ a. a)) xs up i j d (omega arith) within in
      less_by (R x y) x y o refl back (λ e. apart i j d lt within (exact x y e)))

  same-Decides : IsTotalOrder R → CmpEqualImpliesEq R → (x y : X) → Decides (is_eq (R x y)) (x ≡ y)
  same-Decides o exact x y =
      (λ e. exact x y ((Equal-is (R x y)).0 e), λ same. (Equal-is (R x y)).1 (subst (λ z. R x z ≡ Equal) same (itself (R x x) (o.antisymm x x))))
    where
      itself : (r : Ordering) → r ≡ ordering_reverse r → r ≡ Equal
      itself Less e = absurd (cc)
      itself Equal e = refl
      itself Greater e = absurd (cc)

  flips : (a b : Ordering) → a ≡ ordering_reverse b → is_eq a ≡ is_eq b
  flips a Less e = ap is_eq e
  flips a Equal e = ap is_eq e
  flips a Greater e = ap is_eq e

  apart-moved : IsTotalOrder R → CmpEqualImpliesEq R → (xs ys : List X) → IsPermutation xs ys → AllPairs (λ x y. x ≢ y) xs → AllPairs (λ x y. x ≢ y) ys
  apart-moved o exact xs ys moved apart =
      AllPairs-from_IsDistinct (same-Decides o exact) ys
      (IsDistinct-IsPermutation (λ x y. is_eq (R x y)) (λ x y. flips (R x y) (R y x) (o.antisymm x y)) xs ys moved
      (IsDistinct-from_AllPairs (same-Decides o exact) xs apart))

  -- two lists of the same items that ascend are one
  pub ascend-only : IsTotalOrder R → (xs ys : List X) → IsStrictlySortedBy R xs → IsStrictlySortedBy R ys → ((z : X) → Contains xs z → Contains ys z)
      → ((z : X) → Contains ys z → Contains xs z) → xs ≡ ys
  unfolding IsStrictlySortedBy
  ascend-only o [] [] up up' to from = refl
  ascend-only o [] (y ∷ ys) up up' to from = absurd (contains-none y (from y (contains-first y ys)))
  ascend-only o (x ∷ xs) [] up up' to from = absurd (contains-none x (to x (contains-first x xs)))
  ascend-only o (x ∷ xs) (y ∷ ys) up up' to from =
      let heads : x ≡ y = ⊎_elim
      (λ first. sym first)
      (λ later. ⊎_elim
      (λ first'. first')
      (λ later'. absurd (not_both o x y (all-at (λ z. R x z ≡ Less) xs y up.0 later') (all-at (λ z. R y z ≡ Less) ys x up'.0 later)))
      (contains-cons x xs y (from y (contains-first y ys))))
      (contains-cons y ys x (to x (contains-first x xs))) in
      let tails : xs ≡ ys = ascend-only o xs ys up.1 up'.1
      (λ z there. ⊎_elim (λ first. absurd (not_below o z (subst (λ w. R w z ≡ Less) (heads ∙ first) (all-at (λ w. R x w ≡ Less) xs z up.0 there))))
      (λ later. later) (contains-cons y ys z (to z (contains-later x xs z there))))
      (λ z there. ⊎_elim (λ first. absurd (not_below o z (subst (λ w. R w z ≡ Less) (sym heads ∙ first) (all-at (λ w. R y w ≡ Less) ys z up'.0 there))))
      (λ later. later) (contains-cons x xs z (from z (contains-later y ys z there)))) in
      ap (λ (h : X). h ∷ xs) heads ∙ ap (λ (t : List X). y ∷ t) tails
    where
      not_both : IsTotalOrder R → (a b : X) → R a b ≡ Less → R b a ≡ Less → ⊥
      not_both o a b e f = let turned : R a b ≡ Greater = o.antisymm a b ∙ ap ordering_reverse f in cc

      not_below : IsTotalOrder R → (a : X) → R a a ≡ Less → ⊥
      not_below o a e = not_both o a a e e

-- ---- items put in their places
module _ {X : Type 0} (R : X → X → Ordering) where
  found_by : (b : Bool) (x y : X) (ys : List X) (z : X) → (Contains (placed R x ys) z → (x ≡ z) ⊎ Contains ys z)
      → Contains (cond b (x ∷ y ∷ ys) (y ∷ placed R x ys)) z → (x ≡ z) ⊎ Contains (y ∷ ys) z
  found_by true x y ys z ih there = contains-cons x (y ∷ ys) z there
  found_by false x y ys z ih there =
      ⊎_elim
      (λ first. inr (subst (Contains (y ∷ ys)) first (contains-first y ys)))
      (λ later. ⊎_elim (λ new. inl new) (λ old. inr (contains-later y ys z old)) (ih later))
      (contains-cons y (placed R x ys) z there)

  placed-found : (x : X) (ys : List X) (z : X) → Contains (placed R x ys) z → (x ≡ z) ⊎ Contains ys z
  placed-found x [] z there = contains-cons x [] z there
  placed-found x (y ∷ ys) z there = found_by (is_lt (R x y)) x y ys z (placed-found x ys z) there

  has_by : (b : Bool) (x y : X) (ys : List X) (z : X) → ((x ≡ z) ⊎ Contains ys z → Contains (placed R x ys) z)
      → (x ≡ z) ⊎ Contains (y ∷ ys) z → Contains (cond b (x ∷ y ∷ ys) (y ∷ placed R x ys)) z
  has_by true x y ys z ih there = ⊎_elim (λ new. subst (Contains (x ∷ y ∷ ys)) new (contains-first x (y ∷ ys))) (λ old. contains-later x (y ∷ ys) z old) there
  has_by false x y ys z ih there =
      ⊎_elim
      (λ new. contains-later y (placed R x ys) z (ih (inl new)))
      (λ old. ⊎_elim
      (λ first. subst (Contains (y ∷ placed R x ys)) first (contains-first y (placed R x ys)))
      (λ later. contains-later y (placed R x ys) z (ih (inr later)))
      (contains-cons y ys z old))
      there

  placed-has : (x : X) (ys : List X) (z : X) → (x ≡ z) ⊎ Contains ys z → Contains (placed R x ys) z
  placed-has x [] z there = ⊎_elim (λ new. subst (Contains (x ∷ [])) new (contains-first x [])) (λ none. absurd (contains-none z none)) there
  placed-has x (y ∷ ys) z there = has_by (is_lt (R x y)) x y ys z (placed-has x ys z) there

  -- the sorted list has the same items
  pub sorted-found : (xs : List X) (z : X) → Contains (sorted R xs) z → Contains xs z
  sorted-found [] z there = there
  sorted-found (x ∷ xs) z there =
      ⊎_elim (λ first. subst (Contains (x ∷ xs)) first (contains-first x xs)) (λ later. contains-later x xs z (sorted-found xs z later))
      (placed-found x (sorted R xs) z there)

  pub sorted-has : (xs : List X) (z : X) → Contains xs z → Contains (sorted R xs) z
  sorted-has [] z there = there
  sorted-has (x ∷ xs) z there =
      placed-has x (sorted R xs) z (⊎_elim (λ first. inl first) (λ later. inr (sorted-has xs z later)) (contains-cons x xs z there))

  all_by : (b : Bool) (P : X → Type 0) (x y : X) (ys : List X) → P x → AllByRecursion P (y ∷ ys) → AllByRecursion P (placed R x ys)
      → AllByRecursion P (cond b (x ∷ y ∷ ys) (y ∷ placed R x ys))
  all_by true P x y ys new all ih = (new, all)
  all_by false P x y ys new all ih = (all.0, ih)

  pub all-placed : (P : X → Type 0) (x : X) (ys : List X) → P x → AllByRecursion P ys → AllByRecursion P (placed R x ys)
  all-placed P x [] new all = (new, tt)
  all-placed P x (y ∷ ys) new all = all_by (is_lt (R x y)) P x y ys new all (all-placed P x ys new all.1)

  pub all-sorted : (P : X → Type 0) (xs : List X) → AllByRecursion P xs → AllByRecursion P (sorted R xs)
  all-sorted P [] all = tt
  all-sorted P (x ∷ xs) all = all-placed P x (sorted R xs) all.0 (all-sorted P xs all.1)

  placed_by : (r : Ordering) (x y : X) (ys : List X) → IsTotalOrder R → R x y ≡ r → (r ≡ Equal → ⊥) → IsStrictlySortedBy R (y ∷ ys)
      → IsStrictlySortedBy R (placed R x ys)
      → IsStrictlySortedBy R (cond (is_lt r) (x ∷ y ∷ ys) (y ∷ placed R x ys))
  unfolding IsStrictlySortedBy
  placed_by Less x y ys o e apart up ih = ((e, all-map (λ z. R y z ≡ Less) (λ z. R x z ≡ Less) ys (λ z below. o.trans x y z e below) up.0), up)
  placed_by Equal x y ys o e apart up ih = absurd (apart refl)
  placed_by Greater x y ys o e apart up ih =
      let below : R y x ≡ Less = o.antisymm y x ∙ ap ordering_reverse e in
      (all-placed (λ z. R y z ≡ Less) x ys below up.0, ih)

  placed-ascends : IsTotalOrder R → (x : X) (ys : List X) → AllByRecursion (λ y. R x y ≡ Equal → ⊥) ys → IsStrictlySortedBy R ys
      → IsStrictlySortedBy R (placed R x ys)
  unfolding IsStrictlySortedBy
  placed-ascends o x [] apart up = (tt, tt)
  placed-ascends o x (y ∷ ys) apart up = placed_by (R x y) x y ys o refl apart.0 up (placed-ascends o x ys apart.1 up.1)

  -- no two items are tied
  abbrev pub AreApart : List X → Type 0
  AreApart [] = Unit {0}
  AreApart (x ∷ xs) = AllByRecursion (λ y. R x y ≡ Equal → ⊥) xs × AreApart xs

  -- items of which no two are tied ascend once they are sorted
  pub sorted-ascends : IsTotalOrder R → (xs : List X) → AreApart xs → IsStrictlySortedBy R (sorted R xs)
  unfolding IsStrictlySortedBy
  sorted-ascends o [] apart = tt
  sorted-ascends o (x ∷ xs) apart = placed-ascends o x (sorted R xs) (all-sorted (λ y. R x y ≡ Equal → ⊥) xs apart.0) (sorted-ascends o xs apart.1)

-- what a sort makes of items that all differ is the sorted list
pub sort-is : {X : Type 0} (R : X → X → Ordering) → IsTotalOrder R → CmpEqualImpliesEq R → (xs ys : List X) → AreApart R xs → IsPermutation xs ys
    → IsSorted R ys → ys ≡ sorted R xs
sort-is {X} R o exact xs ys apart moved up =
    let differ : AllPairs (λ x y. x ≢ y) xs = apart-differ xs apart in
    ascend-only R o ys (sorted R xs) (ascend-sorted R o exact ys up (apart-moved R o exact xs ys moved differ)) (sorted-ascends R o xs apart)
    (λ z there. sorted-has R xs z (Contains-permutation ys xs z (IsPermutation-sym xs ys moved) there))
    (λ z there. Contains-permutation xs ys z moved (sorted-found R xs z there))
  where
    apart-differ : (zs : List X) → AreApart R zs → AllPairs (λ x y. x ≢ y) zs
    apart-differ [] all = λ i j d lt within. absurd (omega arith)
    apart-differ (z ∷ zs) all = AllPairs-cons (λ x y. x ≢ y) z zs (all-places (λ y. z ≢ y) zs (all-map (λ y. R z y ≡ Equal → ⊥) (λ y. z ≢ y) zs
        (λ y tied same. tied ((Equal-is (R z y)).0 ((same-Decides R o exact z y).1 same))) all.0)) (apart-differ zs all.1)
