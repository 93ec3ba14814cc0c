-- Ascending numbers into which one is put, and of which one is taken out.
use Rattle.std.proofs.Common.{◌≡◌, ℕ, zero, suc, ◌+◌, ◌-◌, ◌<◌, ◌≤◌, ◌==◌, true, false, not, List, [], ◌∷◌, ◌++◌, length}
use Rattle.std.proofs.Common.{get_or, take, drop, filter, remove, Less, Ok, Err, refl, sym, ap, ◌∙◌, subst, arith, length-drop}
use Rattle.std.specs.List.{AllByRecursion}
use Rattle.std.specs.List.Sorted.{IsStrictlySortedBy, IsBinarySearchResult}
use Rattle.std.specs.Ordering.{nat_cmp}
use Rattle.std.proofs.lemmas.Bool.Decides.{nat_tests}
use Rattle.std.proofs.Math.Seq.{paste}
use Rattle.std.proofs.lemmas.List.{append_assoc, drop_at, drop-drop, drop-append-le, drop-take, length-take-le, take_all}
use Rattle.std.proofs.lemmas.List.Edits.{take-paste}
use Rattle.std.proofs.lemmas.List.Sorted.{searched}
use Rattle.mlb_base.proofs.Orders.{less_is, less_apart}

less : (n m : ℕ) → n < m → nat_cmp n m ≡ Less
less n m lt = grind (arith, nat_tests)

pub none-ascend : IsStrictlySortedBy nat_cmp []
unfolding IsStrictlySortedBy
none-ascend = tt

above-at : (n : ℕ) (xs : List ℕ) (i : ℕ) → AllByRecursion (λ m. nat_cmp n m ≡ Less) xs → i < length xs → n < get_or xs i 0
above-at n [] i above lt = absurd (omega (arith, lt))
above-at n (x ∷ xs) zero above lt = less_is n x above.0
above-at n (x ∷ xs) (suc i) above lt = above-at n xs i above.1 (omega (arith, lt))

-- ---- a number that is put at the end
put-above : (n m : ℕ) (xs : List ℕ) → AllByRecursion (λ k. nat_cmp n k ≡ Less) xs → nat_cmp n m ≡ Less → AllByRecursion (λ k. nat_cmp n k ≡ Less) (xs ++ m ∷ [])
put-above n m [] above first = (first, tt)
put-above n m (x ∷ xs) above first = (above.0, put-above n m xs above.1 first)

pub ascending-put : (xs : List ℕ) (n : ℕ) → IsStrictlySortedBy nat_cmp xs → (0 < length xs → get_or xs (length xs - 1) 0 < n)
    → IsStrictlySortedBy nat_cmp (xs ++ n ∷ [])
unfolding IsStrictlySortedBy
ascending-put [] n up last = (tt, tt)
ascending-put (x ∷ []) n up last = ((less x n (last (omega arith)), tt), (tt, tt))
ascending-put (x ∷ y ∷ xs) n up last =
    let at : length (x ∷ y ∷ xs) - 1 ≡ suc (length (y ∷ xs) - 1) = omega arith in
    let end : get_or (y ∷ xs) (length (y ∷ xs) - 1) 0 < n = rw at at (last (omega arith)) in
    let first : x < get_or (y ∷ xs) (length (y ∷ xs) - 1) 0 = above-at x (y ∷ xs) (length (y ∷ xs) - 1) up.0 (omega arith) in
    (put-above x n (y ∷ xs) up.0 (less x n (omega (arith, first, end))), ascending-put (y ∷ xs) n up.1 (λ some. end))

-- ---- a number that is taken out
kept-all : (n : ℕ) (xs : List ℕ) → AllByRecursion (λ m. (m == n) ≡ false) xs → filter (λ m. not (m == n)) xs ≡ xs
kept-all n [] others = refl
kept-all n (x ∷ xs) others = rw others.0 (ap (λ (rest : List ℕ). x ∷ rest) (kept-all n xs others.1))

above-others : (n : ℕ) (xs : List ℕ) → AllByRecursion (λ m. nat_cmp n m ≡ Less) xs → AllByRecursion (λ m. (m == n) ≡ false) xs
above-others n [] above = tt
above-others n (x ∷ xs) above = (less_apart n x above.0, above-others n xs above.1)

taken-out : (n : ℕ) (xs : List ℕ) (i : ℕ) → IsStrictlySortedBy nat_cmp xs → i < length xs → get_or xs i 0 ≡ n → remove xs i ≡ filter (λ m. not (m == n)) xs
unfolding IsStrictlySortedBy
taken-out n [] i up lt at = absurd (omega (arith, lt))
taken-out n (x ∷ xs) zero up lt at =
    let same : (x == n) ≡ true = grind (arith, nat_tests, at) in
    rw (same, kept-all n xs (subst (λ k. AllByRecursion (λ m. (m == k) ≡ false) xs) at (above-others x xs up.0))) refl
taken-out n (x ∷ xs) (suc i) up lt at =
    let within : i < length xs = omega (arith, lt) in
    let under : x < get_or xs i 0 = above-at x xs i up.0 within in
    let other : (x == n) ≡ false = grind (arith, nat_tests, under, at) in
    rw other (ap (λ (rest : List ℕ). x ∷ rest) (taken-out n xs i up.1 within at))

others-from : (n : ℕ) (xs : List ℕ) → ((k : ℕ) → k < length xs → (get_or xs k 0 == n) ≡ false) → AllByRecursion (λ m. (m == n) ≡ false) xs
others-from n [] each = tt
others-from n (x ∷ xs) each = (each 0 (omega arith), others-from n xs (λ k lt. each (suc k) (omega (arith, lt))))

rising : (xs : List ℕ) → IsStrictlySortedBy nat_cmp xs → (i j : ℕ) → i ≤ j → j < length xs → get_or xs i 0 ≤ get_or xs j 0
unfolding IsStrictlySortedBy
rising [] up i j le lt = absurd (omega (arith, lt))
rising (x ∷ xs) up zero zero le lt = omega arith
rising (x ∷ xs) up zero (suc j) le lt = let above : x < get_or xs j 0 = above-at x xs j up.0 (omega (arith, lt)) in omega (arith, above)
rising (x ∷ xs) up (suc i) zero le lt = absurd (omega (arith, le))
rising (x ∷ xs) up (suc i) (suc j) le lt = rising xs up.1 i j (omega (arith, le)) (omega (arith, lt))

-- what a search by binary search found is taken out; where it found nothing, all stay
pub found-out : (n : ℕ) (xs : List ℕ) (i : ℕ) → IsStrictlySortedBy nat_cmp xs → IsBinarySearchResult (λ m. nat_cmp m n) xs (Ok i) → i < length xs
    → remove xs i ≡ filter (λ m. not (m == n)) xs
found-out n xs i up found lt = taken-out n xs i up lt (searched xs n (Ok i) found (rising xs up)).1

pub none-out : (n : ℕ) (xs : List ℕ) (i : ℕ) → IsStrictlySortedBy nat_cmp xs → IsBinarySearchResult (λ m. nat_cmp m n) xs (Err i)
    → xs ≡ filter (λ m. not (m == n)) xs
none-out n xs i up found =
    let parts = searched xs n (Err i) found (rising xs up) in
    sym (kept-all n xs (others-from n xs (λ k lt. other k (get_or xs k 0) (parts.1 k) (λ from. parts.2 k from lt))))
  where
    other : (k m : ℕ) → (k < i → m < n) → (i ≤ k → n < m) → (m == n) ≡ false
    other k m front back = grind (arith, nat_tests, front, back)

-- ---- numbers after those that are gone

-- those at the front are taken away
pub front-dropped : (xs : List ℕ) (gone left : ℕ) → gone + left ≡ length xs → take left (paste xs 0 (drop gone xs) left) ≡ drop gone xs
front-dropped xs gone left whole =
    let same : left ≡ 0 + left = omega arith in
    let long : length (drop gone xs) ≡ left = omega (arith, whole, length-drop gone xs) in
    ap (λ k. take k (paste xs 0 (drop gone xs) left)) same ∙ take-paste xs 0 (drop gone xs) left (omega arith) (omega (arith, long))
    ∙ take_all left (drop gone xs) (omega (arith, long))

-- those ahead of the index move up by one place
pub moved-up : (xs : List ℕ) (gone i : ℕ) → gone + i < length xs → drop (gone + 1) (paste xs (gone + 1) (drop gone xs) i) ≡ remove (drop gone xs) i
moved-up xs gone i lt =
    let front : length (take (gone + 1) xs) ≡ gone + 1 = length-take-le (gone + 1) xs (omega (arith, lt)) in
    let on : gone + 1 + i ≡ gone + suc i = omega arith in
    ap (drop (gone + 1)) (append_assoc (take (gone + 1) xs) (take i (drop gone xs)) (drop (gone + 1 + i) xs))
    ∙ drop_at (take (gone + 1) xs) (take i (drop gone xs) ++ drop (gone + 1 + i) xs) (gone + 1) front
    ∙ ap (λ (rest : List ℕ). take i (drop gone xs) ++ rest) (ap (λ k. drop k xs) on ∙ sym (drop-drop (suc i) gone xs))

-- those after the index move down
pub moved-down : (xs : List ℕ) (gone i : ℕ) → gone + i < length xs → drop gone (remove xs (gone + i)) ≡ remove (drop gone xs) i
moved-down xs gone i lt =
    let front : gone ≤ length (take (gone + i) xs) = let long = length-take-le (gone + i) xs (omega (arith, lt)) in omega (arith, long) in
    let on : suc (gone + i) ≡ gone + suc i = omega arith in
    drop-append-le gone (take (gone + i) xs) (drop (suc (gone + i)) xs) front
    ∙ ap (λ (ys : List ℕ). ys ++ drop (suc (gone + i)) xs) (drop-take gone i xs)
    ∙ ap (λ (rest : List ℕ). take i (drop gone xs) ++ rest) (ap (λ k. drop k xs) on ∙ sym (drop-drop (suc i) gone xs))
