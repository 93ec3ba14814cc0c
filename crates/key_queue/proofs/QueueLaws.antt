-- Lists of distinct keys: what stands in a queue that is kept as two lists, and what is left of it.
use Rattle.std.proofs.Common.{◌≡◌, ℕ, zero, suc, ◌+◌, ◌-◌, ◌≤◌, Bool, true, false, cond, not, ◌||◌, List, [], ◌∷◌, ◌++◌, length}
use Rattle.std.proofs.Common.{take, drop, filter, refl, sym, ap, subst, ◌∙◌, append_assoc, if◌then◌else◌, true≢false, arith}
use Rattle.std.specs.Prelude.{reverse}
use Rattle.std.specs.Cmp.{IsEquivalence}
use Rattle.std.specs.List.{list_any, AllByRecursion, IsDistinct}
use Rattle.std.specs.Set.{remove_key}
use Rattle.std.proofs.lemmas.List.{take_at, take-append-drop, length-reverse, reverse-append, append-nil}
use Rattle.std.proofs.lemmas.List.Folds.{list_any-append}
use Rattle.std.proofs.lemmas.List.Elements.{filter-append}
use Rattle.std.proofs.lemmas.List.Sorted.{list_any-IsPermutation, IsPermutation-reverse, IsPermutation-sym}
use Rattle.std.proofs.lemmas.Map.Keys.{IsDistinct-push, IsDistinct-IsPermutation}
use Rattle.std.proofs.lemmas.Bool.{or_left}
use Rattle.key_queue.specs.Queue.{in_order, queued, queued_all, AreDistinct, AreNew}

-- ---- tests of either
or-false_left : (a b : Bool) → a ≡ false → (a || b) ≡ b
or-false_left false b p = refl
or-false_left true b p = absurd (true≢false p)

-- ---- the beginning of a list
abbrev pub Begins : {T : Type 0} → List T → List T → Type 0
Begins {T} first all = (rest : List T) × (all ≡ first ++ rest)

pub take-begun : {T : Type 0} (first all : List T) → Begins first all → take (length first) all ≡ first
take-begun first all begun = rw begun.1 (take_at first begun.0 (length first) refl)

-- ---- keys that came
module _ {K : Type 0} (eq : K → K → Bool) where
  -- a key that is there isn't queued again
  pub queued-there : (keys : List K) (key : K) → list_any (eq key) keys ≡ true → queued eq keys key ≡ keys
  queued-there keys key there = ap (λ b. if b then keys else keys ++ key ∷ []) there

  -- a new key goes to the back
  pub queued-new : (keys : List K) (key : K) → list_any (eq key) keys ≡ false → queued eq keys key ≡ keys ++ key ∷ []
  queued-new keys key absent = ap (λ b. if b then keys else keys ++ key ∷ []) absent

  begun-by : (b : Bool) (keys : List K) (key : K) → Begins keys (if b then keys else keys ++ key ∷ [])
  begun-by true keys key = ([], sym (append-nil keys))
  begun-by false keys key = (key ∷ [], refl)

  -- what was there is the beginning of what is there after one more came
  pub begun-queued : (old keys : List K) (key : K) → Begins old keys → Begins old (queued eq keys key)
  begun-queued old keys key begun =
      let one = begun-by (list_any (eq key) keys) keys key in
      (begun.0 ++ one.0, one.1 ∙ ap (λ ks. ks ++ one.0) begun.1 ∙ append_assoc old begun.0 one.0)

-- ---- keys that are distinct
module _ {K : Type 0} (P : K → Type 0) where
  all-left : (xs ys : List K) → AllByRecursion P (xs ++ ys) → AllByRecursion P xs
  all-left [] ys all = tt
  all-left (x ∷ xs) ys all = (all.0, all-left xs ys all.1)

  all-filter : (p : K → Bool) (xs : List K) → AllByRecursion P xs → AllByRecursion P (filter p xs)
  all-filter p [] all = tt
  all-filter p (x ∷ xs) all = by (p x) (all-filter p xs all.1)
    where
      by : (b : Bool) → AllByRecursion P (filter p xs) → AllByRecursion P (cond b (x ∷ filter p xs) (filter p xs))
      by true rest = (all.0, rest)
      by false rest = rest

module _ {K : Type 0} (eq : K → K → Bool) where
  -- the keys at the front of distinct keys are distinct
  pub distinct_left : (xs ys : List K) → AreDistinct eq (xs ++ ys) → AreDistinct eq xs
  unfolding IsDistinct
  distinct_left [] ys d = tt
  distinct_left (x ∷ xs) ys d = (all-left (λ y. eq x y ≡ false) xs ys d.0, distinct_left xs ys d.1)

  -- and so are those after them
  pub distinct_right : (xs ys : List K) → AreDistinct eq (xs ++ ys) → AreDistinct eq ys
  unfolding IsDistinct
  distinct_right [] ys d = d
  distinct_right (x ∷ xs) ys d = distinct_right xs ys d.1

  pub distinct_take : (n : ℕ) (xs : List K) → AreDistinct eq xs → AreDistinct eq (take n xs)
  distinct_take n xs d = distinct_left (take n xs) (drop n xs) (subst (AreDistinct eq) (sym (take-append-drop n xs)) d)

  pub distinct_filter : (p : K → Bool) (xs : List K) → AreDistinct eq xs → AreDistinct eq (filter p xs)
  unfolding IsDistinct
  distinct_filter p [] d = tt
  distinct_filter p (x ∷ xs) d = by (p x) (distinct_filter p xs d.1)
    where
      by : (b : Bool) → IsDistinct eq (filter p xs) → IsDistinct eq (cond b (x ∷ filter p xs) (filter p xs))
      by true rest = (all-filter (λ y. eq x y ≡ false) p xs d.0, rest)
      by false rest = rest

module _ {K : Type 0} {eq : K → K → Bool} (laws : IsEquivalence eq) where
  -- after a key came they still are distinct
  pub distinct_queued : (keys : List K) (key : K) → AreDistinct eq keys → AreDistinct eq (queued eq keys key)
  distinct_queued keys key d = by (list_any (eq key) keys) refl
    where
      by : (b : Bool) → list_any (eq key) keys ≡ b → AreDistinct eq (queued eq keys key)
      by true there = subst (AreDistinct eq) (sym (queued-there eq keys key there)) d
      by false absent = subst (AreDistinct eq) (sym (queued-new eq keys key absent)) (IsDistinct-push laws keys key d absent)

  -- and after more came
  pub distinct_queued_all : (more keys : List K) → AreDistinct eq keys → AreDistinct eq (queued_all eq keys more)
  distinct_queued_all [] keys d = d
  distinct_queued_all (key ∷ more) keys d = distinct_queued_all more (queued eq keys key) (distinct_queued keys key d)

  or-none : (a b c : Bool) → a ≡ false → b ≡ false → c ≡ false → (a || (b || c)) ≡ false
  or-none false false false p q r = refl
  or-none a b true p q r = absurd (true≢false r)
  or-none a true c p q r = absurd (true≢false q)
  or-none true b c p q r = absurd (true≢false p)

  -- keys that aren't there still aren't after another came
  still-absent : (keys : List K) (key : K) (more : List K) → AllByRecursion (λ k. eq key k ≡ false) more
      → AllByRecursion (λ k. list_any (eq k) keys ≡ false) more → AllByRecursion (λ k. list_any (eq k) (keys ++ key ∷ []) ≡ false) more
  still-absent keys key [] apart absent = tt
  still-absent keys key (k ∷ more) apart absent = (
    list_any-append (eq k) keys (key ∷ []) ∙ or-none (list_any (eq k) keys) (eq k key) false absent.0 (laws.symm k key ∙ apart.0) refl,
    still-absent keys key more apart.1 absent.1,
  )

  new-by : (more keys : List K) → AllByRecursion (λ k. list_any (eq k) keys ≡ false) more → IsDistinct eq more → queued_all eq keys more ≡ keys ++ more
  unfolding IsDistinct
  new-by [] keys absent d = sym (append-nil keys)
  new-by (key ∷ more) keys absent d =
      ap (λ ks. queued_all eq ks more) (queued-new eq keys key absent.0) ∙ new-by more (keys ++ key ∷ []) (still-absent keys key more d.0 absent.1) d.1
      ∙ append_assoc keys (key ∷ []) more

  -- new keys go to the back as they are
  pub queued_all-new : (keys more : List K) → AreNew eq keys more → queued_all eq keys more ≡ keys ++ more
  queued_all-new keys more new = new-by more keys new.absent new.distinct

  -- distinct keys, and new ones after them, are distinct
  pub AreDistinct-append : (keys more : List K) → AreDistinct eq keys → AreNew eq keys more → AreDistinct eq (keys ++ more)
  AreDistinct-append keys more d new = subst (AreDistinct eq) (queued_all-new keys more new) (distinct_queued_all more keys d)

-- ---- a queue in two lists, the first of them in reverse
module _ {K : Type 0} where
  pub any_in_order : (test : K → Bool) (front back : List K) → list_any test (in_order front back) ≡ (list_any test front || list_any test back)
  any_in_order test front back =
      list_any-append test (reverse front) back
      ∙ ap (λ b. b || list_any test back) (sym (list_any-IsPermutation test front (reverse front) (IsPermutation-reverse front)))

  filter-reverse : (p : K → Bool) (xs : List K) → filter p (reverse xs) ≡ reverse (filter p xs)
  filter-reverse p [] = refl
  filter-reverse p (x ∷ xs) =
      ap (filter p) (reverse-append (x ∷ []) xs) ∙ filter-append p (reverse xs) (x ∷ []) ∙ ap (λ ks. ks ++ filter p (x ∷ [])) (filter-reverse p xs) ∙ by (p x)
    where
      by : (b : Bool) → reverse (filter p xs) ++ cond b (x ∷ []) [] ≡ reverse (cond b (x ∷ filter p xs) (filter p xs))
      by true = sym (reverse-append (x ∷ []) (filter p xs))
      by false = append-nil (reverse (filter p xs))

  pub filter-in_order : (p : K → Bool) (front back : List K) → filter p (in_order front back) ≡ in_order (filter p front) (filter p back)
  filter-in_order p front back = filter-append p (reverse front) back ∙ ap (λ ks. ks ++ filter p back) (filter-reverse p front)

module _ {K : Type 0} (eq : K → K → Bool) where
  -- a key of the front set isn't queued again
  pub queued_in_front : (front back : List K) (key : K) → list_any (eq key) front ≡ true → queued eq (in_order front back) key ≡ in_order front back
  queued_in_front front back key there = queued-there eq (in_order front back) key (any_in_order (eq key) front back ∙ or_left _ _ there)

  -- another is queued in the set after
  pub queued_behind : (front back : List K) (key : K) → list_any (eq key) front ≡ false
      → queued eq (in_order front back) key ≡ in_order front (queued eq back key)
  queued_behind front back key absent =
      ap (λ b. if b then in_order front back else in_order front back ++ key ∷ []) (any_in_order (eq key) front back ∙ or-false_left _ _ absent)
      ∙ by (list_any (eq key) back)
    where
      by : (b : Bool) → (if b then in_order front back else in_order front back ++ key ∷ []) ≡ in_order front (if b then back else back ++ key ∷ [])
      by true = refl
      by false = append_assoc (reverse front) back (key ∷ [])

-- ---- keys that are removed
module _ {K : Type 0} {eq : K → K → Bool} (laws : IsEquivalence eq) where
  -- where a key that is equal stands before them, all the others stay
  none-equal : (key x : K) (xs : List K) → eq key x ≡ true → AllByRecursion (λ y. eq x y ≡ false) xs → filter (λ k. not (eq key k)) xs ≡ xs
  none-equal key x [] same apart = refl
  none-equal key x (y ∷ xs) same apart =
      ap (λ b. cond (not b) (y ∷ filter (λ k. not (eq key k)) xs) (filter (λ k. not (eq key k)) xs)) (laws.congr key x y same ∙ apart.0)
      ∙ ap (λ ks. y ∷ ks) (none-equal key x xs same apart.1)

  -- of distinct keys one at most is equal to a key
  pub remove_key-filter : (key : K) (xs : List K) → AreDistinct eq xs → remove_key (eq key) xs ≡ filter (λ k. not (eq key k)) xs
  unfolding IsDistinct
  remove_key-filter key [] d = refl
  remove_key-filter key (x ∷ xs) d = by (eq key x) refl (remove_key-filter key xs d.1)
    where
      by : (b : Bool) → eq key x ≡ b → remove_key (eq key) xs ≡ filter (λ k. not (eq key k)) xs
          → cond b xs (x ∷ remove_key (eq key) xs) ≡ cond (not b) (x ∷ filter (λ k. not (eq key k)) xs) (filter (λ k. not (eq key k)) xs)
      by true same rest = sym (none-equal key x xs same d.0)
      by false other rest = ap (λ ks. x ∷ ks) rest

  -- the key that is equal is taken out of both lists
  pub removed_in_order : (key : K) (front back : List K) → AreDistinct eq (in_order front back)
      → in_order (remove_key (eq key) front) (remove_key (eq key) back) ≡ filter (λ k. not (eq key k)) (in_order front back)
  removed_in_order key front back d =
      let p : K → Bool = λ k. not (eq key k) in
      let first = IsDistinct-IsPermutation eq laws.symm (reverse front) front (IsPermutation-sym _ _ (IsPermutation-reverse front))
      (distinct_left eq (reverse front) back d) in
      ap (λ ks. in_order ks (remove_key (eq key) back)) (remove_key-filter key front first)
      ∙ ap (λ ks. in_order (filter p front) ks) (remove_key-filter key back (distinct_right eq (reverse front) back d))
      ∙ sym (filter-in_order p front back)

-- ---- what is left of a queue
module _ {K : Type 0} where
  take-past : (xs ys : List K) (n m : ℕ) → n ≡ length xs + m → take n (xs ++ ys) ≡ xs ++ take m ys
  take-past [] ys n m e = let same : n ≡ m = omega arith in ap (λ i. take i ys) same
  take-past (x ∷ xs) ys zero m e = absurd (let no : ⊥ = omega arith in no)
  take-past (x ∷ xs) ys (suc n) m e = ap (λ ks. x ∷ ks) (take-past xs ys n m (omega arith))

  -- where all keys at the front stay, the others are cut after them
  pub cut_behind : (front back cut : List K) (n in_front : ℕ) → in_front ≡ length front → in_front ≤ n → cut ≡ take (n - in_front) back
      → in_order front cut ≡ take n (in_order front back)
  cut_behind front back cut n in_front long within is =
      let same = length-reverse front in
      ap (in_order front) is ∙ sym (take-past (reverse front) back n (n - in_front) (omega arith))

-- without the last of those at the front, which are in reverse, distinct keys are distinct
pub distinct_rest : {K : Type 0} (eq : K → K → Bool) (rest last back : List K) → AreDistinct eq (in_order (rest ++ last) back)
    → AreDistinct eq (in_order rest back)
distinct_rest eq rest last back d =
    distinct_right eq (reverse last) (in_order rest back)
    (subst (AreDistinct eq) (ap (λ ks. ks ++ back) (reverse-append rest last) ∙ append_assoc (reverse last) (reverse rest) back) d)
