-- Claims leave the numbered claims: the other claims of a key, all of a key, or those of keys that a list doesn't show.
use Rattle.std.proofs.Common.{◌≡◌, ℕ, ◌+◌, ◌-◌, ◌<◌, ◌≤◌, ◌==◌, Bool, true, false, cond, not, ◌&&◌, ◌||◌, List, [], ◌∷◌, ◌++◌, filter}
use Rattle.std.proofs.Common.{length, Option, Some, None, is_some, refl, sym, ap, ◌∙◌, subst, arith, All, nat_lt, ⊎_elim, Less, append-nil}
use Rattle.std.specs.Ordering.{nat_cmp}
use Rattle.std.specs.Option.{option_map, option_and_then}
use Rattle.std.specs.List.{AllByRecursion, Contains, find, list_any, slice_get}
use Rattle.std.specs.List.Sorted.{IsStrictlySortedBy}
use Rattle.std.specs.Map.{lookup, keys_of, values_of}
use Rattle.std.proofs.lemmas.Bool.{true≢false, and_parts, eq-eqb, eqb-true, not-true}
use Rattle.std.proofs.lemmas.Bool.Decides.{nat_tests}
use Rattle.std.proofs.lemmas.List.Elements.{recursion_from_All}
use Rattle.kube_model.specs.declared.key.Key.{Key}
use Rattle.kube_model.specs.declared.record.Record.{Record}
use Rattle.kube_model.specs.Keys.{same_key}
use Rattle.kube_model.specs.Records.{is_assigned}
use Rattle.kube_model.proofs.KeyLaws.{same_key-is, same_key-itself}
use Rattle.mlb_base.proofs.Among.{contains-none, contains-cons, contains-first, contains-later}
use Rattle.mlb_base.proofs.Lists.{filter-contains, filter-keeps}
use Rattle.sharing_terms.specs.declared.terms.Terms.{Terms}
use Rattle.claim_index.specs.Claims.{ClaimValue, others, settled}
use Rattle.claim_index.specs.Index.{numbers_of, first_but, first_other}

-- ---- filters and searches along a list
module _ {X : Type 0} where
  twice-by : (S : X → Bool) (t u : Bool) (x : X) (kept rest : List X) → (t && S x) ≡ u → filter S kept ≡ rest
      → filter S (cond t (x ∷ kept) kept) ≡ cond u (x ∷ rest) rest
  twice-by S true u x kept rest e ih = cc
  twice-by S false u x kept rest e ih = rw (← e) ih

  -- two tests in turn, or one that passes where both do
  pub filter-twice : (S T U : X → Bool) (xs : List X) → ((x : X) → Contains xs x → (T x && S x) ≡ U x) → filter S (filter T xs) ≡ filter U xs
  filter-twice S T U [] each = refl
  filter-twice S T U (x ∷ xs) each =
      twice-by S (T x) (U x) x (filter T xs) (filter U xs) (each x (contains-first x xs))
      (filter-twice S T U xs (λ y there. each y (contains-later x xs y there)))

  pub filter-whole : (T : X → Bool) (xs : List X) → ((x : X) → Contains xs x → T x ≡ true) → filter T xs ≡ xs
  filter-whole T [] each = refl
  filter-whole T (x ∷ xs) each =
      rw (each x (contains-first x xs)) (ap (λ (l : List X). x ∷ l) (filter-whole T xs (λ y there. each y (contains-later x xs y there))))

  within-by : (b : Bool) (y : X) (kept ys : List X) → length kept ≤ length ys → length (cond b (y ∷ kept) kept) ≤ length (y ∷ ys)
  within-by true y kept ys h = omega arith
  within-by false y kept ys h = omega arith

  filter-within : (T : X → Bool) (xs : List X) → length (filter T xs) ≤ length xs
  filter-within T [] = omega arith
  filter-within T (y ∷ ys) = within-by (T y) y (filter T ys) ys (filter-within T ys)

  shorter-by : (b : Bool) (y : X) (kept ys : List X) → length kept < length ys → length (cond b (y ∷ kept) kept) < length (y ∷ ys)
  shorter-by true y kept ys h = omega arith
  shorter-by false y kept ys h = omega arith

  shorter-here : (b : Bool) (y : X) (kept ys : List X) → b ≡ false → length kept ≤ length ys → length (cond b (y ∷ kept) kept) < length (y ∷ ys)
  shorter-here true y kept ys e h = absurd (true≢false e)
  shorter-here false y kept ys e h = omega arith

  pub filter-shorter : (T : X → Bool) (xs : List X) (x : X) → Contains xs x → T x ≡ false → length (filter T xs) < length xs
  filter-shorter T [] x there e = absurd (contains-none x there)
  filter-shorter T (y ∷ ys) x there e =
      ⊎_elim
      (λ same. shorter-here (T y) y (filter T ys) ys (ap T same ∙ e) (filter-within T ys))
      (λ more. shorter-by (T y) y (filter T ys) ys (filter-shorter T ys x more e))
      (contains-cons y ys x there)

  found-by : (T : X → Bool) (b : Bool) (y : X) (ys : List X) (x : X) → b ≡ T y → (find T ys ≡ Some x → Contains ys x × (T x ≡ true))
      → cond b (Some y) (find T ys) ≡ Some x → Contains (y ∷ ys) x × (T x ≡ true)
  found-by T true y ys x s ih e = let same : y ≡ x = cc in (subst (Contains (y ∷ ys)) same (contains-first y ys), ap T (sym same) ∙ sym s)
  found-by T false y ys x s ih e = let found = ih e in (contains-later y ys x found.0, found.1)

  pub find-found : (T : X → Bool) (xs : List X) (x : X) → find T xs ≡ Some x → Contains xs x × (T x ≡ true)
  find-found T [] x e = absurd (cc)
  find-found T (y ∷ ys) x e = found-by T (T y) y ys x refl (find-found T ys x) e

  none-by : (b : Bool) (y : X) (rest : Option X) → cond b (Some y) rest ≡ None → (b ≡ false) × (rest ≡ None)
  none-by true y rest e = absurd (cc)
  none-by false y rest e = (refl, e)

  pub find-none : (T : X → Bool) (xs : List X) (x : X) → find T xs ≡ None → Contains xs x → T x ≡ false
  find-none T [] x e there = absurd (contains-none x there)
  find-none T (y ∷ ys) x e there =
      let none = none-by (T y) y (find T ys) e in
      ⊎_elim (λ same. ap T (sym same) ∙ none.0) (λ more. find-none T ys x none.1 more) (contains-cons y ys x there)

  pub find-agree : (T U : X → Bool) (xs : List X) → ((x : X) → Contains xs x → T x ≡ U x) → find T xs ≡ find U xs
  find-agree T U [] each = refl
  find-agree T U (y ∷ ys) each =
      let here : T y ≡ U y = each y (contains-first y ys) in
      let more : find T ys ≡ find U ys = find-agree T U ys (λ x there. each x (contains-later y ys x there)) in
      cc

-- ---- items with ascending numbers
abbrev pub Ascending : {X : Type 0} → List (ℕ × X) → Type 0
Ascending items = IsStrictlySortedBy nat_cmp (keys_of items)

number-apart : (n m : ℕ) → n < m → (n == m) ≡ false
number-apart n m h = grind (arith, nat_tests)

number-other : (k m n : ℕ) → (k == m) ≡ true → (m == n) ≡ false → (k == n) ≡ false
number-other k m n same apart = grind (arith, nat_tests)

number-below : (n m : ℕ) → nat_cmp n m ≡ Less → n < m
number-below n m less = grind (arith, nat_tests)

module _ {X : Type 0} where
  above-item : (n : ℕ) (items : List (ℕ × X)) (q : ℕ × X) → AllByRecursion (λ m. nat_cmp n m ≡ Less) (keys_of items) → Contains items q → n < q.0
  above-item n [] q above there = absurd (contains-none q there)
  above-item n (e ∷ items) q above there =
      ⊎_elim
      (λ same. subst (λ (x : ℕ × X). n < x.0) same (number-below n e.0 above.0))
      (λ more. above-item n items q above.1 more)
      (contains-cons e items q there)

  -- one item has the number
  pub unique : (items : List (ℕ × X)) (p q : ℕ × X) → Ascending items → Contains items p → Contains items q → p.0 ≡ q.0 → p ≡ q
  unfolding IsStrictlySortedBy
  unique [] p q sorted there also same = absurd (contains-none p there)
  unique (e ∷ items) p q sorted there also same =
      ⊎_elim
      (λ first. ⊎_elim
      (λ second. sym first ∙ second)
      (λ later. let below : e.0 < q.0 = above-item e.0 items q sorted.0 later in let is : e.0 ≡ p.0 = ap (λ (x : ℕ × X). x.0) first in
      absurd (omega (arith, below, is, same)))
      (contains-cons e items q also))
      (λ more. ⊎_elim
      (λ second. let below : e.0 < p.0 = above-item e.0 items p sorted.0 more in let is : e.0 ≡ q.0 = ap (λ (x : ℕ × X). x.0) second in
      absurd (omega (arith, below, is, same)))
      (λ later. unique items p q sorted.1 more later same)
      (contains-cons e items q also))
      (contains-cons e items p there)

  least-by : (T : ℕ × X → Bool) (b : Bool) (e : ℕ × X) (items : List (ℕ × X)) (p q : ℕ × X) → b ≡ T e
      → AllByRecursion (λ m. nat_cmp e.0 m ≡ Less) (keys_of items)
      → (find T items ≡ Some q → Contains items p → q.0 ≤ p.0) → cond b (Some e) (find T items) ≡ Some q → Contains (e ∷ items) p → T p ≡ true → q.0 ≤ p.0
  least-by T true e items p q s above ih found there passes =
      let same : e ≡ q = cc in
      let is : e.0 ≡ q.0 = ap (λ (x : ℕ × X). x.0) same in
      ⊎_elim
      (λ first. let also : e.0 ≡ p.0 = ap (λ (x : ℕ × X). x.0) first in omega (arith, is, also))
      (λ later. let below : e.0 < p.0 = above-item e.0 items p above later in omega (arith, is, below))
      (contains-cons e items p there)
  least-by T false e items p q s above ih found there passes =
      ⊎_elim (λ first. absurd (true≢false (sym passes ∙ ap T (sym first) ∙ sym s))) (λ later. ih found later) (contains-cons e items p there)

  -- the first item that passes has the least number of those
  pub find-least : (T : ℕ × X → Bool) (items : List (ℕ × X)) (p q : ℕ × X) → Ascending items → find T items ≡ Some q → Contains items p → T p ≡ true → q.0 ≤ p.0
  unfolding IsStrictlySortedBy
  find-least T [] p q sorted found there passes = absurd (contains-none p there)
  find-least T (e ∷ items) p q sorted found there passes =
      least-by T (T e) e items p q refl sorted.0 (λ more later. find-least T items p q sorted.1 more later passes) found there passes

  lookup-by : (b : Bool) (n m : ℕ) (y : X) (items : List (ℕ × X)) (x : X) → (m == n) ≡ b → (lookup (λ k. k == n) items ≡ Some x → Contains items (n, x))
      → cond b (Some y) (lookup (λ k. k == n) items) ≡ Some x → Contains ((m, y) ∷ items) (n, x)
  lookup-by true n m y items x s ih e =
      let value : y ≡ x = cc in
      let number : m ≡ n = eqb-true m n s in
      let with_number : ℕ → ℕ × X = λ k. (k, y) in
      let with_value : X → ℕ × X = λ z. (n, z) in
      let is : (m, y) ≡ (n, x) = ap with_number number ∙ ap with_value value in
      subst (Contains ((m, y) ∷ items)) is (contains-first (m, y) items)
  lookup-by false n m y items x s ih e = contains-later (m, y) items (n, x) (ih e)

  pub lookup-found : (n : ℕ) (items : List (ℕ × X)) (x : X) → lookup (λ k. k == n) items ≡ Some x → Contains items (n, x)
  lookup-found n [] x e = absurd (cc)
  lookup-found n (p ∷ items) x e = lookup-by (p.0 == n) n p.0 p.1 items x refl (lookup-found n items x) e

  pub lookup-here : (n : ℕ) (items : List (ℕ × X)) (x : X) → Ascending items → Contains items (n, x) → lookup (λ k. k == n) items ≡ Some x
  unfolding IsStrictlySortedBy
  lookup-here n [] x sorted there = absurd (contains-none (n, x) there)
  lookup-here n (e ∷ items) x sorted there =
      ⊎_elim
      (λ same. let number : e.0 ≡ n = ap (λ (p : ℕ × X). p.0) same in let value : e.1 ≡ x = ap (λ (p : ℕ × X). p.1) same in
      rw (eq-eqb e.0 n number) (ap (λ (y : X). Some y) value))
      (λ more. let below : e.0 < n = above-item e.0 items (n, x) sorted.0 more in rw (number-apart e.0 n below) (lookup-here n items x sorted.1 more))
      (contains-cons e items (n, x) there)

  kept-by : (b : Bool) (n m : ℕ) (e : ℕ × X) (kept items : List (ℕ × X)) → (e.0 == m) ≡ b → (m == n) ≡ false
      → lookup (λ k. k == n) kept ≡ lookup (λ k. k == n) items
      → lookup (λ k. k == n) (cond (not b) (e ∷ kept) kept) ≡ cond (e.0 == n) (Some e.1) (lookup (λ k. k == n) items)
  kept-by true n m e kept items s apart ih = rw (number-other e.0 m n s apart) ih
  kept-by false n m e kept items s apart ih = ap (λ (o : Option X). cond (e.0 == n) (Some e.1) o) ih

  -- where an item leaves, each other stays
  pub lookup-kept : (n m : ℕ) (items : List (ℕ × X)) → (m == n) ≡ false → lookup (λ k. k == n) (filter (λ p. not (p.0 == m)) items) ≡ lookup (λ k. k == n) items
  lookup-kept n m [] apart = refl
  lookup-kept n m (e ∷ items) apart = kept-by (e.0 == m) n m e (filter (λ p. not (p.0 == m)) items) items refl apart (lookup-kept n m items apart)

  pub keys-found : (items : List (ℕ × X)) (m : ℕ) → Contains (keys_of items) m → (p : ℕ × X) × Contains items p × (p.0 ≡ m)
  keys-found [] m there = absurd (contains-none m there)
  keys-found (e ∷ items) m there =
      ⊎_elim
      (λ same. (e, contains-first e items, same))
      (λ more. let found = keys-found items m more in (found.0, contains-later e items found.0 found.1, found.2))
      (contains-cons e.0 (keys_of items) m there)

  pub keys-contain : (items : List (ℕ × X)) (p : ℕ × X) → Contains items p → Contains (keys_of items) p.0
  keys-contain [] p there = absurd (contains-none p there)
  keys-contain (e ∷ items) p there =
      ⊎_elim
      (λ same. subst (λ (x : ℕ × X). Contains (keys_of (e ∷ items)) x.0) same (contains-first e.0 (keys_of items)))
      (λ more. contains-later e.0 (keys_of items) p.0 (keys-contain items p more))
      (contains-cons e items p there)

  pub values-filter : (T : X → Bool) (items : List (ℕ × X)) → values_of (filter (λ p. T p.1) items) ≡ filter T (values_of items)
  values-filter T [] = refl
  values-filter T (e ∷ items) = values-by (T e.1) e (filter (λ p. T p.1) items) (filter T (values_of items)) (values-filter T items)
    where
      values-by : (b : Bool) (e : ℕ × X) (kept : List (ℕ × X)) (rest : List X) → values_of kept ≡ rest
          → values_of (cond b (e ∷ kept) kept) ≡ cond b (e.1 ∷ rest) rest
      values-by true e kept rest ih = ap (λ (l : List X). e.1 ∷ l) ih
      values-by false e kept rest ih = ih

  lookup-pushed : (items : List (ℕ × X)) (n : ℕ) (x : X) → AllByRecursion (λ p. p.0 < n) items → lookup (λ k. k == n) (items ++ (n, x) ∷ []) ≡ Some x
  lookup-pushed [] n x fresh = rw (eq-eqb n n refl) refl
  lookup-pushed (e ∷ items) n x fresh = rw (number-apart e.0 n fresh.0) (lookup-pushed items n x fresh.1)

-- ---- the claims of a key
-- the claim isn't of the key, or has this number
abbrev pub is_alone : ℕ → Key → ℕ × ClaimValue → Bool
is_alone n key p = not (same_key p.1.key key) || (p.0 == n)

-- The number is that of a claim of the key.
pub record IsNumberOf (m : ℕ) (key : Key) (items : List (ℕ × ClaimValue)) : Type 0 where
  pub item : ℕ × ClaimValue
  pub stands : Contains items item
  pub number : item.0 ≡ m
  pub own : same_key item.1.key key ≡ true

number-of : (key : Key) (items : List (ℕ × ClaimValue)) (m : ℕ) → Contains (numbers_of key items) m → IsNumberOf m key items
number-of key items m there =
    let found = keys-found (filter (λ (p : ℕ × ClaimValue). same_key p.1.key key) items) m there in
    let kept = filter-contains (λ (p : ℕ × ClaimValue). same_key p.1.key key) items found.0 found.1 in
    record { item = found.0; stands = kept.0; number = found.2; own = kept.1 }

numbers-contain : (key : Key) (items : List (ℕ × ClaimValue)) (p : ℕ × ClaimValue) → Contains items p → same_key p.1.key key ≡ true
    → Contains (numbers_of key items) p.0
numbers-contain key items p there own =
    keys-contain (filter (λ (q : ℕ × ClaimValue). same_key q.1.key key) items) p (filter-keeps (λ (q : ℕ × ClaimValue). same_key q.1.key key) items p there own)

-- the item of the number is of the key
own-number : (m : ℕ) (key : Key) (items : List (ℕ × ClaimValue)) (p : ℕ × ClaimValue) → Ascending items → IsNumberOf m key items → Contains items p
    → (p.0 == m) ≡ true → same_key p.1.key key ≡ true
own-number m key items p sorted is there e =
    let same : p.0 ≡ is.item.0 = eqb-true p.0 m e ∙ sym is.number in
    let item : p ≡ is.item = unique items p is.item sorted there is.stands same in
    ap (λ (q : ℕ × ClaimValue). same_key q.1.key key) item ∙ is.own

-- The number is that of another claim of the key of this one.
pub record IsOther (n m : ℕ) (c : ClaimValue) (items : List (ℕ × ClaimValue)) : Type 0 where
  pub here : lookup (λ k. k == n) items ≡ Some c
  pub apart : (m == n) ≡ false
  pub is : IsNumberOf m c.key items

other-by : (n m : ℕ) (items : List (ℕ × ClaimValue)) (o : Option ClaimValue) → lookup (λ k. k == n) items ≡ o
    → option_and_then (λ c. first_but n (numbers_of c.key items)) o ≡ Some m → (c : ClaimValue) × IsOther n m c items
other-by n m items None s e = absurd (cc)
other-by n m items (Some c) s e =
    let found = find-found (λ k. not (k == n)) (numbers_of c.key items) m e in
    (c, record { here = s; apart = not-true (m == n) found.1; is = number-of c.key items m found.0 })

other-is : (n m : ℕ) (items : List (ℕ × ClaimValue)) → first_other n items ≡ Some m → (c : ClaimValue) × IsOther n m c items
other-is n m items e = other-by n m items (lookup (λ k. k == n) items) refl e

-- Other claims of the key of the claim of this number have left, and nothing else.
pub record IsThinned (n : ℕ) (before now : List (ℕ × ClaimValue)) : Type 0 where
  pub alone : (c : ClaimValue) → lookup (λ k. k == n) before ≡ Some c
      → (lookup (λ k. k == n) now ≡ Some c) × (filter (is_alone n c.key) now ≡ filter (is_alone n c.key) before)
  pub ascending : Ascending now → Ascending before

pub thinned-start : (n : ℕ) (items : List (ℕ × ClaimValue)) → IsThinned n items items
thinned-start n items = record { alone = λ c here. (here, refl); ascending = λ sorted. sorted }

step-by : (b s t : Bool) → (b ≡ true → s ≡ true) → (b ≡ true → t ≡ false) → (not b && (not s || t)) ≡ (not s || t)
step-by true s t own apart = rw (own refl, apart refl) refl
step-by false s t own apart = refl

pub thinned-step : (n m : ℕ) (before now : List (ℕ × ClaimValue)) → Ascending now → first_other n now ≡ Some m → IsThinned n before now
    → IsThinned n before (filter (λ p. not (p.0 == m)) now)
thinned-step n m before now sorted e thin =
    let other = other-is n m now e in
    record {
      alone = λ c here. let so_far = thin.alone c here in (lookup-kept n m now other.1.apart ∙ so_far.0, kept other.0 other.1 c so_far.0 ∙ so_far.1);
      ascending = λ _. thin.ascending sorted;
    }
  where
    kept : (d : ClaimValue) → IsOther n m d now → (c : ClaimValue) → lookup (λ k. k == n) now ≡ Some c
        → filter (is_alone n c.key) (filter (λ p. not (p.0 == m)) now) ≡ filter (is_alone n c.key) now
    kept d other c here =
        let same_some : Some d ≡ Some c = sym other.here ∙ here in
        let same : d ≡ c = cc in
        let is : IsNumberOf m c.key now = subst (λ (x : ClaimValue). IsNumberOf m x.key now) same other.is in
        filter-twice (is_alone n c.key) (λ p. not (p.0 == m)) (is_alone n c.key) now
        (λ p there. step-by (p.0 == m) (same_key p.1.key c.key) (p.0 == n) (own-number m c.key now p sorted is there) (λ b. number-other p.0 m n b other.apart))

pub thinned-smaller : (n m : ℕ) (now : List (ℕ × ClaimValue)) → first_other n now ≡ Some m → length (filter (λ p. not (p.0 == m)) now) < length now
thinned-smaller n m now e =
    let other = other-is n m now e in
    let is = other.1.is in
    filter-shorter (λ p. not (p.0 == m)) now is.item is.stands (ap not (eq-eqb is.item.0 m is.number))

alone-by : (s t : Bool) → (s ≡ true → t ≡ true) → (not s || t) ≡ true
alone-by true t is = is refl
alone-by false t is = refl

pub thinned-end : (n : ℕ) (before now : List (ℕ × ClaimValue)) → first_other n now ≡ None → IsThinned n before now → (c : ClaimValue)
    → lookup (λ k. k == n) before ≡ Some c → now ≡ filter (is_alone n c.key) before
thinned-end n before now e thin c here =
    let so_far = thin.alone c here in
    let none : first_but n (numbers_of c.key now) ≡ None = sym (ap (option_and_then (λ (d : ClaimValue). first_but n (numbers_of d.key now))) so_far.0) ∙ e in
    sym (filter-whole (is_alone n c.key) now (λ p there. alone-by (same_key p.1.key c.key) (p.0 == n)
    (λ own. not-false (p.0 == n) (find-none (λ k. not (k == n)) (numbers_of c.key now) p.0 none (numbers-contain c.key now p there own))))) ∙ so_far.1
  where
    not-false : (b : Bool) → not b ≡ false → b ≡ true
    not-false true e = refl
    not-false false e = absurd (true≢false e)

-- the key has no claims
pub all-none : (key : Key) (items : List (ℕ × ClaimValue)) → numbers_of key items ≡ [] → items ≡ filter (λ p. not (same_key p.1.key key)) items
all-none key items e =
    sym (filter-whole (λ p. not (same_key p.1.key key)) items (λ p there. not-own (same_key p.1.key key)
    (λ own. contains-none p.0 (subst (λ (l : List ℕ). Contains l p.0) e (numbers-contain key items p there own)))))
  where
    not-own : (b : Bool) → (b ≡ true → ⊥) → not b ≡ true
    not-own true none = absurd (none refl)
    not-own false none = refl

last-by : (s t u : Bool) → s ≡ u → (t ≡ true → u ≡ true) → ((not s || t) && not t) ≡ not u
last-by true true u same own = rw (own refl) refl
last-by false true u same own = rw (own refl) refl
last-by true false u same own = rw (← same) refl
last-by false false u same own = rw (← same) refl

pub first-none : (l : List ℕ) → None ≡ slice_get l 0 → l ≡ []
first-none [] e = refl
first-none (n ∷ l) e = absurd (cc)

pub first-some : (l : List ℕ) (n : ℕ) → Some n ≡ slice_get l 0 → (rest : List ℕ) × (l ≡ n ∷ rest)
first-some [] n e = absurd (cc)
first-some (m ∷ l) n e = let same : n ≡ m = cc in (l, ap (λ (k : ℕ). k ∷ l) (sym same))

-- one claim of the key was left alone, and left
pub all-left : (key : Key) (n : ℕ) (rest : List ℕ) (items thinned : List (ℕ × ClaimValue)) → Ascending items → numbers_of key items ≡ n ∷ rest
    → ((c : ClaimValue) → lookup (λ k. k == n) items ≡ Some c → thinned ≡ filter (is_alone n c.key) items)
    → filter (λ p. not (p.0 == n)) thinned ≡ filter (λ p. not (same_key p.1.key key)) items
all-left key n rest items thinned sorted e each =
    let is = number-of key items n (subst (λ (l : List ℕ). Contains l n) (sym e) (contains-first n rest)) in
    let c = is.item.1 in
    let here : lookup (λ k. k == n) items ≡ Some c =
    subst (λ (m : ℕ). lookup (λ k. k == m) items ≡ Some c) is.number (lookup-here is.item.0 items c sorted is.stands) in
    let key_is : c.key ≡ key = same_key-is c.key key is.own in
    ap (filter (λ (p : ℕ × ClaimValue). not (p.0 == n))) (each c here)
    ∙ filter-twice (λ p. not (p.0 == n)) (is_alone n c.key) (λ p. not (same_key p.1.key key)) items
    (λ p there. last-by (same_key p.1.key c.key) (p.0 == n) (same_key p.1.key key) (ap (same_key p.1.key) key_is) (own-number n key items p sorted is there))

pub others-values : (key : Key) (items left : List (ℕ × ClaimValue)) → left ≡ filter (λ p. not (same_key p.1.key key)) items
    → values_of left ≡ others key (values_of items)
others-values key items left e = ap (λ (l : List (ℕ × ClaimValue)). values_of l) e ∙ values-filter (λ c. not (same_key c.key key)) items

-- ---- a claim came at the end, and is left alone
pushed-by : (s t : Bool) (e : ℕ × ClaimValue) (kept : List (ℕ × ClaimValue)) (rest : List ClaimValue) (c : ClaimValue) → t ≡ false
    → values_of kept ≡ rest ++ c ∷ []
    → values_of (cond (not s || t) (e ∷ kept) kept) ≡ cond (not s) (e.1 ∷ rest) rest ++ c ∷ []
pushed-by true t e kept rest c apart ih = rw apart ih
pushed-by false t e kept rest c apart ih = ap (λ (l : List ClaimValue). e.1 ∷ l) ih

values-pushed : (items : List (ℕ × ClaimValue)) (n : ℕ) (c : ClaimValue) → AllByRecursion (λ p. p.0 < n) items
    → values_of (filter (is_alone n c.key) (items ++ (n, c) ∷ [])) ≡ others c.key (values_of items) ++ c ∷ []
values-pushed [] n c fresh = rw (same_key-itself c.key, eq-eqb n n refl) refl
values-pushed (e ∷ items) n c fresh =
    pushed-by (same_key e.1.key c.key) (e.0 == n) e (filter (is_alone n c.key) (items ++ (n, c) ∷ [])) (others c.key (values_of items)) c
    (number-apart e.0 n fresh.0) (values-pushed items n c fresh.1)

pub settled-assigned : (items more thinned : List (ℕ × ClaimValue)) (n : ℕ) (c : ClaimValue) → is_assigned c.holding ≡ true → All (λ p. p.0 < n) items
    → more ≡ items ++ (n, c) ∷ []
    → ((d : ClaimValue) → lookup (λ k. k == n) more ≡ Some d → thinned ≡ filter (is_alone n d.key) more)
    → values_of thinned ≡ settled c.key c.holding c.terms (values_of items)
settled-assigned items more thinned n c assigned all e each =
    let fresh = recursion_from_All (λ (p : ℕ × ClaimValue). p.0 < n) items all in
    let here : lookup (λ k. k == n) more ≡ Some c =
    subst (λ (l : List (ℕ × ClaimValue)). lookup (λ k. k == n) l ≡ Some c) (sym e) (lookup-pushed items n c fresh) in
    let left : thinned ≡ filter (is_alone n c.key) (items ++ (n, c) ∷ []) = each c here ∙ ap (filter (is_alone n c.key)) e in
    rw assigned (ap (λ (l : List (ℕ × ClaimValue)). values_of l) left ∙ values-pushed items n c fresh)

pub settled-unassigned : (items left : List (ℕ × ClaimValue)) (key : Key) (r : Record) (t : Terms) → is_assigned r ≡ false
    → left ≡ filter (λ p. not (same_key p.1.key key)) items
    → values_of left ≡ settled key r t (values_of items)
settled-unassigned items left key r t unassigned e = rw unassigned (others-values key items left e ∙ sym (append-nil (others key (values_of items))))

-- ---- claims of keys that a list doesn't show
module _ {X : Type 0} where
  both-by : (T S : X → Bool) (b : Bool) (y : X) (ys : List X) (q : X) → b ≡ T y → S q ≡ true → (find T ys ≡ Some q → find (λ x. T x && S x) ys ≡ Some q)
      → cond b (Some y) (find T ys) ≡ Some q
      → cond (b && S y) (Some y) (find (λ x. T x && S x) ys) ≡ Some q
  both-by T S true y ys q s passes ih e = let same : y ≡ q = cc in rw (ap S same ∙ passes) e
  both-by T S false y ys q s passes ih e = ih e

  find-both : (T S : X → Bool) (xs : List X) (q : X) → find T xs ≡ Some q → S q ≡ true → find (λ x. T x && S x) xs ≡ Some q
  find-both T S [] q e passes = absurd (cc)
  find-both T S (y ∷ ys) q e passes = both-by T S (T y) y ys q refl passes (λ more. find-both T S ys q more passes) e

  neither : (T S : X → Bool) (xs : List X) → find T xs ≡ None → find (λ x. T x && S x) xs ≡ None
  neither T S [] e = refl
  neither T S (y ∷ ys) e = let none = none-by (T y) y (find T ys) e in rw none.0 (neither T S ys none.1)

-- the first from a number on isn't below it
pub first-passed : (items : List (ℕ × ClaimValue)) (next : ℕ) (q : ℕ × ClaimValue) → find (λ p. not (nat_lt p.0 next)) items ≡ Some q → next ≤ q.0
first-passed items next q e = passed (find-found (λ (p : ℕ × ClaimValue). not (nat_lt p.0 next)) items q e).1
  where
    passed : not (nat_lt q.0 next) ≡ true → next ≤ q.0
    passed e = grind (arith, nat_tests)

pub falls-below : (limit next n : ℕ) → next ≤ n → n + 1 < limit → limit - (n + 1) < limit - next
falls-below limit next n from within = omega arith

module _ (lists : Key → Bool) where
  -- the claim's number is this one or a greater one, and its key isn't listed
  abbrev pub is_due : ℕ → ℕ × ClaimValue → Bool
  is_due from p = not (nat_lt p.0 from) && not (lists p.1.key)

  agree-by : (a b l : Bool) → (l ≡ false → a ≡ b) → (not a && not l) ≡ (not b && not l)
  agree-by true true l e = refl
  agree-by false false l e = refl
  agree-by true false true e = refl
  agree-by false true true e = refl
  agree-by true false false e = absurd (true≢false (e refl))
  agree-by false true false e = absurd (true≢false (sym (e refl)))

  passed-by : (k next m : ℕ) → not (nat_lt m next) ≡ true → (not (nat_lt k next) ≡ true → m ≤ k) → (k ≡ m → ⊥) → nat_lt k next ≡ nat_lt k (m + 1)
  passed-by k next m from least other = grind (arith, nat_tests)

  pub unlisted-step : (items : List (ℕ × ClaimValue)) (next : ℕ) (q : ℕ × ClaimValue) → Ascending items → find (λ p. not (nat_lt p.0 next)) items ≡ Some q
      → lists q.1.key ≡ true
      → find (is_due (q.0 + 1)) items ≡ find (is_due next) items
  unlisted-step items next q sorted e listed =
      let found = find-found (λ (p : ℕ × ClaimValue). not (nat_lt p.0 next)) items q e in
      sym (find-agree (is_due next) (is_due (q.0 + 1)) items (λ p there. agree-by (nat_lt p.0 next) (nat_lt p.0 (q.0 + 1)) (lists p.1.key)
      (λ unlisted. passed-by p.0 next q.0 found.1
      (λ passes. find-least (λ p. not (nat_lt p.0 next)) items p q sorted e there passes)
      (λ same. true≢false (sym listed ∙ ap (λ (x : ℕ × ClaimValue). lists x.1.key) (sym (unique items p q sorted there found.0 same)) ∙ unlisted)))))

  pub unlisted-found : (items : List (ℕ × ClaimValue)) (next : ℕ) (q : ℕ × ClaimValue) → find (λ p. not (nat_lt p.0 next)) items ≡ Some q
      → lists q.1.key ≡ false → find (is_due next) items ≡ Some q
  unlisted-found items next q e unlisted = find-both (λ p. not (nat_lt p.0 next)) (λ p. not (lists p.1.key)) items q e (ap not unlisted)

  pub unlisted-none : (items : List (ℕ × ClaimValue)) (next : ℕ) → find (λ p. not (nat_lt p.0 next)) items ≡ None → find (is_due next) items ≡ None
  unlisted-none items next e = neither (λ p. not (nat_lt p.0 next)) (λ p. not (lists p.1.key)) items e

  -- Claims of keys that aren't listed have left, and nothing else; all below this number are listed.
  pub record IsCleared (from : ℕ) (before now : List (ℕ × ClaimValue)) : Type 0 where
    pub kept : filter (λ p. lists p.1.key) now ≡ filter (λ p. lists p.1.key) before
    pub listed : (p : ℕ × ClaimValue) → Contains now p → p.0 < from → lists p.1.key ≡ true

  pub cleared-start : (items : List (ℕ × ClaimValue)) → IsCleared 0 items items
  cleared-start items = record { kept = refl; listed = λ p there below. absurd (omega (arith, below)) }

  due-by : (o : Option (ℕ × ClaimValue)) (from m : ℕ) (now : List (ℕ × ClaimValue)) → find (is_due from) now ≡ o → option_map (λ p. p.0) o ≡ Some m
      → (q : ℕ × ClaimValue) × (find (is_due from) now ≡ Some q) × (q.0 ≡ m)
  due-by None from m now s e = absurd (cc)
  due-by (Some q) from m now s e = (q, s, (cc))

  due-is : (from m : ℕ) (now : List (ℕ × ClaimValue)) → option_map (λ p. p.0) (find (is_due from) now) ≡ Some m
      → (q : ℕ × ClaimValue) × (find (is_due from) now ≡ Some q) × (q.0 ≡ m)
  due-is from m now e = due-by (find (is_due from) now) from m now refl e

  pub cleared-smaller : (from m : ℕ) (now : List (ℕ × ClaimValue)) → option_map (λ p. p.0) (find (is_due from) now) ≡ Some m
      → length (filter (λ p. not (p.0 == m)) now) < length now
  cleared-smaller from m now e =
      let due = due-is from m now e in
      let found = find-found (is_due from) now due.0 due.1 in
      filter-shorter (λ p. not (p.0 == m)) now due.0 found.0 (ap not (eq-eqb due.0.0 m due.2))

  leave-by : (b l : Bool) → (b ≡ true → l ≡ false) → (not b && l) ≡ l
  leave-by true l e = sym (e refl)
  leave-by false l e = refl

  below-by : (k from m : ℕ) (l : Bool) → k < m → (k < from → l ≡ true) → ((not (nat_lt k from) && not l) ≡ true → m ≤ k) → l ≡ true
  below-by k from m true below listed least = refl
  below-by k from m false below listed least = grind (arith, nat_tests)

  pub cleared-step : (from m : ℕ) (before now : List (ℕ × ClaimValue)) → Ascending now → option_map (λ p. p.0) (find (is_due from) now) ≡ Some m
      → IsCleared from before now
      → IsCleared m before (filter (λ p. not (p.0 == m)) now)
  cleared-step from m before now sorted e clear =
      let due = due-is from m now e in
      let found = find-found (is_due from) now due.0 due.1 in
      let unlisted : lists due.0.1.key ≡ false = not-true (lists due.0.1.key) ((and_parts (not (nat_lt due.0.0 from)) (not (lists due.0.1.key)) found.1).1) in
      record {
        kept = filter-twice (λ p. lists p.1.key) (λ p. not (p.0 == m)) (λ p. lists p.1.key) now
            (λ p there. leave-by (p.0 == m) (lists p.1.key)
            (λ same. ap (λ (x : ℕ × ClaimValue). lists x.1.key) (unique now p due.0 sorted there found.0 (eqb-true p.0 m same ∙ sym due.2)) ∙ unlisted))
            ∙ clear.kept;
        listed = λ p there below.
            let stood = filter-contains (λ (x : ℕ × ClaimValue). not (x.0 == m)) now p there in
            below-by p.0 from m (lists p.1.key) below (clear.listed p stood.0)
            (λ passes. subst (λ (k : ℕ). k ≤ p.0) due.2 (find-least (is_due from) now p due.0 sorted due.1 stood.0 passes));
      }

  none-due : (o : Option (ℕ × ClaimValue)) → option_map (λ p. p.0) o ≡ None → o ≡ None
  none-due None e = refl
  none-due (Some q) e = absurd (cc)

  end-by : (k from : ℕ) (l : Bool) → (k < from → l ≡ true) → (not (nat_lt k from) && not l) ≡ false → l ≡ true
  end-by k from true listed e = refl
  end-by k from false listed e = grind (arith, nat_tests)

  pub cleared-end : (from : ℕ) (before now : List (ℕ × ClaimValue)) → option_map (λ p. p.0) (find (is_due from) now) ≡ None → IsCleared from before now
      → now ≡ filter (λ p. lists p.1.key) before
  cleared-end from before now e clear =
      let none = none-due (find (is_due from) now) e in
      sym (filter-whole (λ p. lists p.1.key) now (λ p there. end-by p.0 from (lists p.1.key) (clear.listed p there) (find-none (is_due from) now p none there)))
      ∙ clear.kept

  any-by : (l : Bool) (p : ℕ × ClaimValue) (o : Option (ℕ × ClaimValue)) (rest : Bool) → is_some (option_map (λ q. q.0) o) ≡ rest
      → is_some (option_map (λ q. q.0) (cond (not l) (Some p) o)) ≡ (not l || rest)
  any-by true p o rest ih = ih
  any-by false p o rest ih = refl

  pub any-unlisted : (items : List (ℕ × ClaimValue))
      → is_some (option_map (λ p. p.0) (find (is_due 0) items)) ≡ list_any (λ c. not (lists c.key)) (values_of items)
  any-unlisted [] = refl
  any-unlisted (p ∷ items) =
      rw (from-none p.0) (any-by (lists p.1.key) p (find (is_due 0) items) (list_any (λ c. not (lists c.key)) (values_of items)) (any-unlisted items))
    where
      from-none : (k : ℕ) → nat_lt k 0 ≡ false
      from-none k = grind (arith, nat_tests)
