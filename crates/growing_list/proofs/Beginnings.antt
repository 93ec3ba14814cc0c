-- Beginnings of one list.
use Rattle.std.proofs.Common.{◌≡◌, ℕ, ◌≤◌, ◌<◌, Bool, true, false, MatchBool, List, [], ◌∷◌, length, refl, arith}
use mathlib.Core.List.{IsPrefix}
use lib.Dec.{leb}
use Rattle.std.proofs.lemmas.Bool.Decides.{nat_tests}

-- of two beginnings of one list the shorter begins the longer
pub prefix_shorter : {A : Type 0} (xs ys zs : List A) → IsPrefix xs zs → IsPrefix ys zs → length xs ≤ length ys → IsPrefix xs ys
prefix_shorter [] ys zs p q le = (ys, refl)
prefix_shorter (x ∷ xs) [] zs p q le = absurd (omega arith)
prefix_shorter (x ∷ xs) (y ∷ ys) [] p q le = absurd (cc (p.1))
prefix_shorter (x ∷ xs) (y ∷ ys) (z ∷ zs) p q le =
    let heads : x ≡ y = cc (p.1, q.1) in
    let rest = prefix_shorter xs ys zs (p.0, cc (p.1)) (q.0, cc (q.1)) (omega arith) in
    (rest.0, cc (heads, rest.1))

-- a beginning as long as the whole is the whole
pub prefix_whole : {A : Type 0} (xs ys : List A) → IsPrefix xs ys → length ys ≤ length xs → xs ≡ ys
prefix_whole [] [] p le = refl
prefix_whole [] (y ∷ ys) p le = absurd (omega arith)
prefix_whole (x ∷ xs) [] p le = absurd (cc (p.1))
prefix_whole (x ∷ xs) (y ∷ ys) p le =
    let rest = prefix_whole xs ys (p.0, cc (p.1)) (omega arith) in cc (p.1, rest)

begins_by : {A : Type 0} (xs ys zs : List A) (n m : ℕ) → n ≡ length xs → m ≡ length ys → IsPrefix xs zs → IsPrefix ys zs → (b : Bool) → leb n m ≡ b
    → MatchBool b (IsPrefix xs ys) (IsPrefix ys xs × (length ys < length xs))
begins_by xs ys zs n m long long' p q true is =
    let le : n ≤ m = grind (arith, nat_tests) in
    prefix_shorter xs ys zs p q (omega (arith, long, long', le))
begins_by xs ys zs n m long long' p q false is =
    let lt : m < n = grind (arith, nat_tests) in
    (prefix_shorter ys xs zs q p (omega (arith, long, long', lt)), omega (arith, long, long', lt))

-- of two beginnings one begins the other, as their lengths say
pub begins_as_long : {A : Type 0} (xs ys zs : List A) (n m : ℕ) → n ≡ length xs → m ≡ length ys → IsPrefix xs zs → IsPrefix ys zs
    → MatchBool (leb n m) (IsPrefix xs ys) (IsPrefix ys xs × (length ys < length xs))
begins_as_long xs ys zs n m long long' p q = begins_by xs ys zs n m long long' p q (leb n m) refl
