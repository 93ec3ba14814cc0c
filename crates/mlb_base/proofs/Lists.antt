-- Lists, along their items: joined, cut, filtered and counted.
use Rattle.std.proofs.Common.{◌≡◌, ℕ, zero, suc, ◌+◌, Bool, true, false, cond, eqb, List, [], ◌∷◌, ◌++◌, length}
use Rattle.std.proofs.Common.{take, drop, filter, ◌⊎◌, inl, inr, ⊎_elim, refl, sym, ap, ◌∙◌, subst, arith}
use Rattle.std.proofs.lemmas.Bool.{true≢false, ne_eqb}
use Rattle.std.proofs.lemmas.Bool.Decides.{Decides-or}
use Rattle.std.proofs.lemmas.List.Sums.{sum_by-cons}
use Rattle.std.specs.Bool.{Decides}
use Rattle.std.specs.List.{AllByRecursion, Contains, count_by, list_any}
use Rattle.mlb_base.specs.Items.{Has, IsIn, is_nil}
use Rattle.mlb_base.proofs.Among.{contains-none, contains-cons, contains-first, contains-later}

module _ {X : Type 0} (P : X → Type 0) where
  -- what holds of each item of two lists holds of each of both together
  pub all-append : (xs ys : List X) → AllByRecursion P xs → AllByRecursion P ys → AllByRecursion P (xs ++ ys)
  all-append [] ys all more = more
  all-append (x ∷ xs) ys all more = (all.0, all-append xs ys all.1 more)

  -- and the other way round
  pub all-front : (xs ys : List X) → AllByRecursion P (xs ++ ys) → AllByRecursion P xs
  all-front [] ys all = tt
  all-front (x ∷ xs) ys all = (all.0, all-front xs ys all.1)

  pub all-behind : (xs ys : List X) → AllByRecursion P (xs ++ ys) → AllByRecursion P ys
  all-behind [] ys all = all
  all-behind (x ∷ xs) ys all = all-behind xs ys all.1

  pub all-take : (n : ℕ) (xs : List X) → AllByRecursion P xs → AllByRecursion P (take n xs)
  all-take zero xs all = tt
  all-take (suc n) [] all = tt
  all-take (suc n) (x ∷ xs) all = (all.0, all-take n xs all.1)

  pub all-drop : (n : ℕ) (xs : List X) → AllByRecursion P xs → AllByRecursion P (drop n xs)
  all-drop zero xs all = all
  all-drop (suc n) [] all = tt
  all-drop (suc n) (x ∷ xs) all = all-drop n xs all.1

module _ {X : Type 0} (p : X → Bool) where
  found_by : (b : Bool) (y : X) (ys : List X) (x : X) → b ≡ p y → (Contains (filter p ys) x → Contains ys x × (p x ≡ true))
      → Contains (cond b (y ∷ filter p ys) (filter p ys)) x → Contains (y ∷ ys) x × (p x ≡ true)
  found_by true y ys x s ih there =
      ⊎_elim
      (λ same. (subst (Contains (y ∷ ys)) same (contains-first y ys), ap p (sym same) ∙ sym s))
      (λ more. let kept = ih more in (contains-later y ys x kept.0, kept.1))
      (contains-cons y (filter p ys) x there)
  found_by false y ys x s ih there = let kept = ih there in (contains-later y ys x kept.0, kept.1)

  -- what is left passes, and stood there
  pub filter-contains : (xs : List X) (x : X) → Contains (filter p xs) x → Contains xs x × (p x ≡ true)
  filter-contains [] x there = absurd (contains-none x there)
  filter-contains (y ∷ ys) x there = found_by (p y) y ys x refl (filter-contains ys x) there

  kept_by : (b : Bool) (y : X) (rest : List X) (x : X) → b ≡ p y → p x ≡ true → (y ≡ x) ⊎ Contains rest x → Contains (cond b (y ∷ rest) rest) x
  kept_by true y rest x s passes there = ⊎_elim (λ same. subst (Contains (y ∷ rest)) same (contains-first y rest)) (λ more. contains-later y rest x more) there
  kept_by false y rest x s passes there = ⊎_elim (λ same. absurd (true≢false (sym passes ∙ ap p (sym same) ∙ sym s))) (λ more. more) there

  -- what stood there and passes is left
  pub filter-keeps : (xs : List X) (x : X) → Contains xs x → p x ≡ true → Contains (filter p xs) x
  filter-keeps [] x there passes = absurd (contains-none x there)
  filter-keeps (y ∷ ys) x there passes =
      kept_by (p y) y (filter p ys) x refl passes (⊎_elim (λ same. inl same) (λ more. inr (filter-keeps ys x more passes)) (contains-cons y ys x there))

  pub count-cons : (x : X) (xs : List X) → count_by p (x ∷ xs) ≡ cond (p x) 1 0 + count_by p xs
  count-cons x xs = sum_by-cons (λ y. cond (p y) 1 0) x xs

pub not_empty : {X : Type 0} (x : X) (xs : List X) → eqb (length (x ∷ xs)) 0 ≡ false
not_empty x xs = ne_eqb (length (x ∷ xs)) 0 (λ none. omega (arith, none))

pub Decides-nil : {A : Type 0} (xs : List A) → Decides (is_nil xs) (xs ≡ [])
Decides-nil [] = (λ _. refl, λ _. refl)
Decides-nil (x ∷ xs) = (λ e. absurd (cc), λ e. absurd (cc))

pub Decides-has : {A : Type 0} (p : A → Bool) (P : A → Type 0) → ((x : A) → Decides (p x) (P x)) → (xs : List A) → Decides (list_any p xs) (Has P xs)
Decides-has p P each [] = (λ e. absurd (true≢false (sym e)), λ h. absurd h)
Decides-has p P each (x ∷ xs) = Decides-or (p x) (list_any p xs) (each x) (Decides-has p P each xs)

-- what stands in a list, by its places and along it
pub in-contains : {X : Type 0} (xs : List X) (x : X) → IsIn xs x → Contains xs x
in-contains {X} [] x none = absurd none
in-contains {X} (y ∷ ys) x there =
    ⊎_elim (λ here. subst (λ (z : X). Contains (y ∷ ys) z) here (contains-first y ys)) (λ later. contains-later y ys x (in-contains ys x later)) there

pub contains-in : {X : Type 0} (xs : List X) (x : X) → Contains xs x → IsIn xs x
contains-in [] x there = absurd (contains-none x there)
contains-in (y ∷ ys) x there = ⊎_elim (λ here. inl here) (λ later. inr (contains-in ys x later)) (contains-cons y ys x there)
