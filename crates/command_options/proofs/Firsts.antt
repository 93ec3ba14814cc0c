-- What stands ahead of the first element that passes, and what stands after it.
use Rattle.std.proofs.Common.{◌≡◌, ℕ, suc, ◌+◌, ◌<◌, ◌≤◌, Bool, true, false, cond, not, List, [], ◌∷◌, ◌++◌, length, map, take, drop, refl, ap, ◌∙◌, arith}
use Rattle.std.proofs.Math.Seq.{take-append_seam, take-length, drop-append-add}
use Rattle.std.proofs.Math.ListN.{drop_of_length-le}
use Rattle.std.proofs.lemmas.Bool.{false≢true, true≢false}
use Rattle.std.specs.List.{AllByRecursion, list_any, position_or_len, before_first, after_first}

take_one : {X : Type 0} (n : ℕ) (x : X) (xs : List X) → take (1 + n) (x ∷ xs) ≡ x ∷ take n xs
take_one n x xs = let e : 1 + n ≡ suc n = omega arith in rw e refl

drop_one : {X : Type 0} (n : ℕ) (x : X) (xs : List X) → drop ((1 + n) + 1) (x ∷ xs) ≡ drop (n + 1) xs
drop_one n x xs = let e : (1 + n) + 1 ≡ suc (n + 1) = omega arith in rw e refl

module _ {X : Type 0} (p : X → Bool) where
  -- none passes
  abbrev pub Lack : List X → Type 0
  Lack xs = AllByRecursion (λ x. p x ≡ false) xs

  -- one that doesn't pass stands ahead of the first
  pub before-cons : (x : X) (xs : List X) → p x ≡ false → before_first p (x ∷ xs) ≡ x ∷ before_first p xs
  before-cons x xs e = rw e (take_one (position_or_len p xs) x xs)

  pub after-cons : (x : X) (xs : List X) → p x ≡ false → after_first p (x ∷ xs) ≡ after_first p xs
  after-cons x xs e = rw e (drop_one (position_or_len p xs) x xs)

  -- ---- one passes, and none ahead of it does
  place-of : (xs : List X) (x : X) (ys : List X) → Lack xs → p x ≡ true → position_or_len p (xs ++ x ∷ ys) ≡ length xs
  place-of [] x ys lack e = rw e refl
  place-of (y ∷ xs) x ys lack e = rw lack.0 (ap (λ (n : ℕ). 1 + n) (place-of xs x ys lack.1 e) ∙ omega arith)

  pub before-found : (xs : List X) (x : X) (ys : List X) → Lack xs → p x ≡ true → before_first p (xs ++ x ∷ ys) ≡ xs
  before-found xs x ys lack e = ap (λ (n : ℕ). take n (xs ++ x ∷ ys)) (place-of xs x ys lack e) ∙ take-append_seam xs (x ∷ ys)

  pub after-found : (xs : List X) (x : X) (ys : List X) → Lack xs → p x ≡ true → after_first p (xs ++ x ∷ ys) ≡ ys
  after-found xs x ys lack e = ap (λ (n : ℕ). drop (n + 1) (xs ++ x ∷ ys)) (place-of xs x ys lack e) ∙ drop-append-add xs (x ∷ ys) 1

  pub any-found : (xs : List X) (x : X) (ys : List X) → Lack xs → p x ≡ true → list_any p (xs ++ x ∷ ys) ≡ true
  any-found [] x ys lack e = rw e refl
  any-found (y ∷ xs) x ys lack e = rw lack.0 (any-found xs x ys lack.1 e)

  -- The first that passes.
  pub record Found (xs : List X) : Type 0 where
    pub one : X
    pub passes : p one ≡ true
    pub split : xs ≡ before_first p xs ++ one ∷ after_first p xs

  pub found : (xs : List X) → list_any p xs ≡ true → Found xs
  found [] e = absurd (false≢true e)
  found (x ∷ xs) e = by (p x) (found xs) refl e where
    by : (b : Bool) → (list_any p xs ≡ true → Found xs) → p x ≡ b → list_any p (x ∷ xs) ≡ true → Found (x ∷ xs)
    by true later t f = record { one = x; passes = t; split = rw t refl }
    by false later t f =
        let more = later (rw t at f) in
        record {
          one = more.one;
          passes = more.passes;
          split = rw (before-cons x xs t, after-cons x xs t) (ap (λ (l : List X). x ∷ l) more.split);
        }

  -- ---- none passes
  none-there : (xs : List X) → Lack xs → position_or_len p xs ≡ length xs
  none-there [] lack = refl
  none-there (x ∷ xs) lack = rw lack.0 (ap (λ (n : ℕ). 1 + n) (none-there xs lack.1) ∙ omega arith)

  pub before-none : (xs : List X) → Lack xs → before_first p xs ≡ xs
  before-none xs lack = ap (λ (n : ℕ). take n xs) (none-there xs lack) ∙ take-length xs

  pub after-none : (xs : List X) → Lack xs → after_first p xs ≡ []
  after-none xs lack = ap (λ (n : ℕ). drop (n + 1) xs) (none-there xs lack) ∙ drop_of_length-le xs (omega arith)

  pub any-none : (xs : List X) → Lack xs → list_any p xs ≡ false
  any-none [] lack = refl
  any-none (x ∷ xs) lack = rw lack.0 (any-none xs lack.1)

  pub lack-of : (xs : List X) → list_any p xs ≡ false → Lack xs
  lack-of [] e = tt
  lack-of (x ∷ xs) e = by (p x) (lack-of xs) refl e where
    by : (b : Bool) → (list_any p xs ≡ false → Lack xs) → p x ≡ b → list_any p (x ∷ xs) ≡ false → Lack (x ∷ xs)
    by true later t f = absurd (true≢false (rw t at f))
    by false later t f = (t, later (rw t at f))

  -- ---- by the place of the first that passes
  pub lack-by : (xs : List X) → length xs ≤ position_or_len p xs → Lack xs
  lack-by [] none = tt
  lack-by (x ∷ xs) none = by (p x) (lack-by xs) refl none where
    by : (b : Bool) → (length xs ≤ position_or_len p xs → Lack xs) → p x ≡ b → length (x ∷ xs) ≤ position_or_len p (x ∷ xs) → Lack (x ∷ xs)
    by true later t le = let first : length (x ∷ xs) ≤ 0 = rw t at le in absurd (omega (arith, first))
    by false later t le = let more : length (x ∷ xs) ≤ 1 + position_or_len p xs = rw t at le in (t, later (omega (arith, more)))

  pub any-by : (xs : List X) → position_or_len p xs < length xs → list_any p xs ≡ true
  any-by [] there = absurd (omega (arith, there))
  any-by (x ∷ xs) there = by (p x) (any-by xs) refl there where
    by : (b : Bool) → (position_or_len p xs < length xs → list_any p xs ≡ true) → p x ≡ b → position_or_len p (x ∷ xs) < length (x ∷ xs)
        → list_any p (x ∷ xs) ≡ true
    by true later t lt = rw t refl
    by false later t lt = let more : 1 + position_or_len p xs < length (x ∷ xs) = rw t at lt in rw t (later (omega (arith, more)))

-- the first place of a list, read
pub place-map : {X Y : Type 0} (f : X → Y) (p : Y → Bool) (xs : List X) → position_or_len p (map f xs) ≡ position_or_len (λ x. p (f x)) xs
place-map f p [] = refl
place-map f p (x ∷ xs) = ap (λ (n : ℕ). cond (not (p (f x))) (1 + n) 0) (place-map f p xs)
