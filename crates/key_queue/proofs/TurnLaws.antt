-- Keys by their numbers: one that came last, one that is taken out, and those that pass.
use Rattle.std.proofs.Common.{◌≡◌, ℕ, ◌+◌, ◌<◌, ◌≤◌, Bool, true, false, cond, not, ◌||◌, List, [], ◌∷◌, ◌++◌, filter, Option}
use Rattle.std.proofs.Common.{Some, None, is_some, Ordering, Less, Equal, Greater, is_eq, nat_lt, refl, sym, ap, ◌∙◌, arith}
use Rattle.std.specs.Cmp.{IsTotalOrder, Equal-is}
use Rattle.std.specs.List.{AllByRecursion, list_any}
use Rattle.std.specs.List.Sorted.{IsStrictlySortedBy}
use Rattle.std.specs.Ordering.{match_ordering}
use Rattle.std.specs.Map.{keys_of, lookup, remove_entry}
use Rattle.std.specs.BTreeMap.{insert_entry, is_at}
use Rattle.std.proofs.lemmas.Bool.Decides.{nat_tests}
use Rattle.key_queue.specs.Turn.{placed, by_number, in_turn}

is-below : (m n : ℕ) → m < n → nat_lt m n ≡ true
is-below m n lt = grind (arith, nat_tests)

isn't-below : (m n : ℕ) → n ≤ m → nat_lt m n ≡ false
isn't-below m n le = grind (arith, nat_tests)

was-below : (m n : ℕ) → nat_lt m n ≡ true → m < n
was-below m n e = grind (arith, nat_tests)

wasn't-below : (m n : ℕ) → nat_lt m n ≡ false → n ≤ m
wasn't-below m n e = grind (arith, nat_tests)

-- ---- what holds of each entry
module _ {X : Type 0} (P : X → Type 0) where
  all-filtered : (p : X → Bool) (es : List X) → AllByRecursion P es → AllByRecursion P (filter p es)
  all-filtered p [] all = tt
  all-filtered p (e ∷ es) all = by (p e) (all-filtered p es all.1)
    where
      by : (b : Bool) → AllByRecursion P (filter p es) → AllByRecursion P (cond b (e ∷ filter p es) (filter p es))
      by true rest = (all.0, rest)
      by false rest = rest

module _ {K : Type 0} where
  all-mapped : (P Q : K × ℕ → Type 0) → ((e : K × ℕ) → P e → Q e) → (es : List (K × ℕ)) → AllByRecursion P es → AllByRecursion Q es
  all-mapped P Q f [] all = tt
  all-mapped P Q f (e ∷ es) all = (f e all.0, all-mapped P Q f es all.1)

  module _ (P : K × ℕ → Type 0) where
    all-placed : (e : K × ℕ) (es : List (K × ℕ)) → P e → AllByRecursion P es → AllByRecursion P (placed e es)
    all-placed e [] one all = (one, tt)
    all-placed e (x ∷ es) one all = by (nat_lt e.1 x.1) (all-placed e es one all.1)
      where
        by : (b : Bool) → AllByRecursion P (placed e es) → AllByRecursion P (cond b (e ∷ x ∷ es) (x ∷ placed e es))
        by true rest = (one, all)
        by false rest = (all.0, rest)

    all-by_number : (es : List (K × ℕ)) → AllByRecursion P es → AllByRecursion P (by_number es)
    all-by_number [] all = tt
    all-by_number (e ∷ es) all = all-placed e (by_number es) all.0 (all-by_number es all.1)

  -- ---- an entry that came last
  placed-end : (l : K × ℕ) (es : List (K × ℕ)) → AllByRecursion (λ x. x.1 < l.1) es → placed l es ≡ es ++ l ∷ []
  placed-end l [] below = refl
  placed-end l (x ∷ es) below =
      let after : nat_lt l.1 x.1 ≡ false = isn't-below l.1 x.1 (omega (arith, below.0)) in
      rw after (ap (λ (rest : List (K × ℕ)). x ∷ rest) (placed-end l es below.1))

  placed-before : (e l : K × ℕ) (es : List (K × ℕ)) → e.1 < l.1 → placed e (es ++ l ∷ []) ≡ placed e es ++ l ∷ []
  placed-before e l [] lt = rw (is-below e.1 l.1 lt) refl
  placed-before e l (x ∷ es) lt = by (nat_lt e.1 x.1) (placed-before e l es lt)
    where
      by : (b : Bool) → placed e (es ++ l ∷ []) ≡ placed e es ++ l ∷ []
          → cond b (e ∷ x ∷ (es ++ l ∷ [])) (x ∷ placed e (es ++ l ∷ [])) ≡ cond b (e ∷ x ∷ es) (x ∷ placed e es) ++ l ∷ []
      by true rest = refl
      by false rest = ap (λ (more : List (K × ℕ)). x ∷ more) rest

  module _ (cmp : K → K → Ordering) (key : K) (n : ℕ) where
    came-by : (r : Ordering) (e : K × ℕ) (es : List (K × ℕ)) → cond (is_eq r) (Some e.1) (lookup (is_at (cmp key)) es) ≡ None
        → AllByRecursion (λ x. x.1 < n) (e ∷ es)
        → (lookup (is_at (cmp key)) es ≡ None → by_number (insert_entry cmp es key n) ≡ by_number es ++ (key, n) ∷ [])
        → by_number (match_ordering r ((key, n) ∷ e ∷ es) ((e.0, n) ∷ es) (e ∷ insert_entry cmp es key n)) ≡ by_number (e ∷ es) ++ (key, n) ∷ []
    came-by Less e es none below ih = placed-end (key, n) (by_number (e ∷ es)) (all-by_number (λ x. x.1 < n) (e ∷ es) below)
    came-by Equal e es none below ih = absurd (cc)
    came-by Greater e es none below ih = ap (placed e) (ih none) ∙ placed-before e (key, n) (by_number es) below.0

    -- a new key with the greatest number stands at the end
    came : (es : List (K × ℕ)) → lookup (is_at (cmp key)) es ≡ None → AllByRecursion (λ x. x.1 < n) es
        → by_number (insert_entry cmp es key n) ≡ by_number es ++ (key, n) ∷ []
    came [] none below = refl
    came (e ∷ es) none below = came-by (cmp key e.0) e es none below (λ absent. came es absent below.1)

    within-by : (r : Ordering) (e : K × ℕ) (es : List (K × ℕ)) → AllByRecursion (λ x. x.1 < n) (e ∷ es)
        → AllByRecursion (λ x. x.1 < n + 1) (insert_entry cmp es key n)
        → AllByRecursion (λ x. x.1 < n + 1) (match_ordering r ((key, n) ∷ e ∷ es) ((e.0, n) ∷ es) (e ∷ insert_entry cmp es key n))
    within-by Less e es below ih = (omega arith, all-mapped (λ x. x.1 < n) (λ x. x.1 < n + 1) (λ x lt. omega (arith, lt)) (e ∷ es) below)
    within-by Equal e es below ih = (omega arith, all-mapped (λ x. x.1 < n) (λ x. x.1 < n + 1) (λ x lt. omega (arith, lt)) es below.1)
    within-by Greater e es below ih = (omega (arith, below.0), ih)

    -- and each number is below the next
    pub within : (es : List (K × ℕ)) → AllByRecursion (λ x. x.1 < n) es → AllByRecursion (λ x. x.1 < n + 1) (insert_entry cmp es key n)
    within [] below = (omega arith, tt)
    within (e ∷ es) below = within-by (cmp key e.0) e es below (within es below.1)

  keys-append : (es fs : List (K × ℕ)) → keys_of (es ++ fs) ≡ keys_of es ++ keys_of fs
  keys-append [] fs = refl
  keys-append (e ∷ es) fs = ap (λ (rest : List K). e.0 ∷ rest) (keys-append es fs)

  pub in_turn-came : (cmp : K → K → Ordering) (key : K) (n : ℕ) (es : List (K × ℕ)) → lookup (is_at (cmp key)) es ≡ None → AllByRecursion (λ x. x.1 < n) es
      → in_turn (insert_entry cmp es key n) ≡ in_turn es ++ key ∷ []
  in_turn-came cmp key n es none below = ap keys_of (came cmp key n es none below) ∙ keys-append (by_number es) ((key, n) ∷ [])

  -- ---- entries that pass
  abbrev Rises : List (K × ℕ) → Type 0
  Rises [] = Unit {0}
  Rises (e ∷ es) = AllByRecursion (λ x. e.1 ≤ x.1) es × Rises es

  placed-rises : (e : K × ℕ) (es : List (K × ℕ)) → Rises es → Rises (placed e es)
  placed-rises e [] up = (tt, tt)
  placed-rises e (x ∷ es) up = by (nat_lt e.1 x.1) refl (placed-rises e es up.1)
    where
      by : (b : Bool) → nat_lt e.1 x.1 ≡ b → Rises (placed e es) → Rises (cond b (e ∷ x ∷ es) (x ∷ placed e es))
      by true is rest =
          let lt = was-below e.1 x.1 is in
          ((omega (arith, lt), all-mapped (λ y. x.1 ≤ y.1) (λ y. e.1 ≤ y.1) (λ y le. omega (arith, lt, le)) es up.0), up)
      by false is rest = (all-placed (λ y. x.1 ≤ y.1) e es (wasn't-below e.1 x.1 is) up.0, rest)

  rises : (es : List (K × ℕ)) → Rises (by_number es)
  rises [] = tt
  rises (e ∷ es) = placed-rises e (by_number es) (rises es)

  placed-first : (e : K × ℕ) (es : List (K × ℕ)) → AllByRecursion (λ x. e.1 < x.1) es → placed e es ≡ e ∷ es
  placed-first e [] above = refl
  placed-first e (x ∷ es) above = rw (is-below e.1 x.1 above.0) refl

  module _ (p : K × ℕ → Bool) where
    kept-by : (one two : Bool) (e x : K × ℕ) (kept more : List (K × ℕ)) → nat_lt e.1 x.1 ≡ false → more ≡ cond one (placed e kept) kept
        → cond two (x ∷ more) more ≡ cond one (placed e (cond two (x ∷ kept) kept)) (cond two (x ∷ kept) kept)
    kept-by true true e x kept more after is = rw (after, is) refl
    kept-by true false e x kept more after is = is
    kept-by false true e x kept more after is = ap (λ (rest : List (K × ℕ)). x ∷ rest) is
    kept-by false false e x kept more after is = is

    filter-placed : (e : K × ℕ) (es : List (K × ℕ)) → Rises es → filter p (placed e es) ≡ cond (p e) (placed e (filter p es)) (filter p es)
    filter-placed e [] up = refl
    filter-placed e (x ∷ es) up = by (nat_lt e.1 x.1) refl (filter-placed e es up.1)
      where
        by : (b : Bool) → nat_lt e.1 x.1 ≡ b → filter p (placed e es) ≡ cond (p e) (placed e (filter p es)) (filter p es)
            → filter p (cond b (e ∷ x ∷ es) (x ∷ placed e es)) ≡ cond (p e) (placed e (filter p (x ∷ es))) (filter p (x ∷ es))
        by true is rest =
            let lt = was-below e.1 x.1 is in
            let above : AllByRecursion (λ y. e.1 < y.1) (x ∷ es) = (lt, all-mapped (λ y. x.1 ≤ y.1) (λ y. e.1 < y.1) (λ y le. omega (arith, lt, le)) es up.0) in
            ap (λ (first : List (K × ℕ)). cond (p e) first (filter p (x ∷ es)))
            (sym (placed-first e (filter p (x ∷ es)) (all-filtered (λ y. e.1 < y.1) p (x ∷ es) above)))
        by false is rest = kept-by (p e) (p x) e x (filter p es) (filter p (placed e es)) is rest

    by_number-kept : (b : Bool) (e : K × ℕ) (es : List (K × ℕ)) → by_number (cond b (e ∷ es) es) ≡ cond b (placed e (by_number es)) (by_number es)
    by_number-kept true e es = refl
    by_number-kept false e es = refl

    filter-by_number : (es : List (K × ℕ)) → filter p (by_number es) ≡ by_number (filter p es)
    filter-by_number [] = refl
    filter-by_number (e ∷ es) =
        filter-placed e (by_number es) (rises es)
        ∙ ap (λ (rest : List (K × ℕ)). cond (p e) (placed e rest) rest) (filter-by_number es)
        ∙ sym (by_number-kept (p e) e (filter p es))

  filter-keys : (q : K → Bool) (es : List (K × ℕ)) → filter q (keys_of es) ≡ keys_of (filter (λ e. q e.0) es)
  filter-keys q [] = refl
  filter-keys q (e ∷ es) = by (q e.0) (filter-keys q es)
    where
      by : (b : Bool) → filter q (keys_of es) ≡ keys_of (filter (λ x. q x.0) es)
          → cond b (e.0 ∷ filter q (keys_of es)) (filter q (keys_of es)) ≡ keys_of (cond b (e ∷ filter (λ x. q x.0) es) (filter (λ x. q x.0) es))
      by true ih = ap (λ (rest : List K). e.0 ∷ rest) ih
      by false ih = ih

  pub in_turn-kept : (q : K → Bool) (es : List (K × ℕ)) → in_turn (filter (λ e. q e.0) es) ≡ filter q (in_turn es)
  in_turn-kept q es = ap keys_of (sym (filter-by_number (λ e. q e.0) es)) ∙ sym (filter-keys q (by_number es))

  -- ---- an entry that is taken out
  none-is : (key : K) (cmp : K → K → Ordering) (es : List (K × ℕ)) → AllByRecursion (λ k. cmp key k ≡ Less) (keys_of es)
      → filter (λ e. not (is_at (cmp key) e.0)) es ≡ es
  none-is key cmp [] above = refl
  none-is key cmp (e ∷ es) above = rw above.0 (ap (λ (rest : List (K × ℕ)). e ∷ rest) (none-is key cmp es above.1))

  module _ {cmp : K → K → Ordering} (o : IsTotalOrder cmp) (key : K) where
    above-as : (k : K) (ks : List K) → cmp key k ≡ Equal → AllByRecursion (λ y. cmp k y ≡ Less) ks → AllByRecursion (λ y. cmp key y ≡ Less) ks
    above-as k [] same above = tt
    above-as k (y ∷ ks) same above = (o.congr key k y same ∙ above.0, above-as k ks same above.1)

    taken-by : (b : Bool) (e : K × ℕ) (es : List (K × ℕ)) → is_at (cmp key) e.0 ≡ b → AllByRecursion (λ y. cmp e.0 y ≡ Less) (keys_of es)
        → remove_entry (is_at (cmp key)) es ≡ filter (λ x. not (is_at (cmp key) x.0)) es
        → cond b es (e ∷ remove_entry (is_at (cmp key)) es)
        ≡ cond (not b) (e ∷ filter (λ x. not (is_at (cmp key) x.0)) es) (filter (λ x. not (is_at (cmp key) x.0)) es)
    taken-by true e es is above ih = sym (none-is key cmp es (above-as e.0 (keys_of es) ((Equal-is (cmp key e.0)).0 is) above))
    taken-by false e es is above ih = ap (λ (rest : List (K × ℕ)). e ∷ rest) ih

    taken : (es : List (K × ℕ)) → IsStrictlySortedBy cmp (keys_of es) → remove_entry (is_at (cmp key)) es ≡ filter (λ x. not (is_at (cmp key) x.0)) es
    unfolding IsStrictlySortedBy
    taken [] up = refl
    taken (e ∷ es) up = taken-by (is_at (cmp key) e.0) e es refl up.0 (taken es up.1)

    pub in_turn-taken : (es : List (K × ℕ)) → IsStrictlySortedBy cmp (keys_of es)
        → in_turn (remove_entry (is_at (cmp key)) es) ≡ filter (λ k. not (is_at (cmp key) k)) (in_turn es)
    in_turn-taken es up = ap in_turn (taken es up) ∙ in_turn-kept (λ k. not (is_at (cmp key) k)) es

  pub within-kept : (n : ℕ) (p : K × ℕ → Bool) (es : List (K × ℕ)) → AllByRecursion (λ x. x.1 < n) es → AllByRecursion (λ x. x.1 < n) (filter p es)
  within-kept n p es below = all-filtered (λ x. x.1 < n) p es below

  pub within-taken : (n : ℕ) (test : K → Bool) (es : List (K × ℕ)) → AllByRecursion (λ x. x.1 < n) es → AllByRecursion (λ x. x.1 < n) (remove_entry test es)
  within-taken n test [] below = tt
  within-taken n test (e ∷ es) below = by (test e.0) (within-taken n test es below.1)
    where
      by : (b : Bool) → AllByRecursion (λ x. x.1 < n) (remove_entry test es) → AllByRecursion (λ x. x.1 < n) (cond b es (e ∷ remove_entry test es))
      by true rest = below.1
      by false rest = (below.0, rest)

  -- ---- whether a key is there
  module _ (test : K → Bool) where
    either : (a b c : Bool) → (a || (b || c)) ≡ (b || (a || c))
    either true true c = refl
    either true false c = refl
    either false b c = refl

    any-placed : (e : K × ℕ) (es : List (K × ℕ)) → list_any test (keys_of (placed e es)) ≡ (test e.0 || list_any test (keys_of es))
    any-placed e [] = refl
    any-placed e (x ∷ es) = by (nat_lt e.1 x.1) (any-placed e es)
      where
        by : (b : Bool) → list_any test (keys_of (placed e es)) ≡ (test e.0 || list_any test (keys_of es))
            → list_any test (keys_of (cond b (e ∷ x ∷ es) (x ∷ placed e es))) ≡ (test e.0 || list_any test (keys_of (x ∷ es)))
        by true rest = refl
        by false rest = ap (λ (more : Bool). test x.0 || more) rest ∙ either (test x.0) (test e.0) (list_any test (keys_of es))

    found-by : (b : Bool) (v : ℕ) (rest : Option ℕ) → is_some (cond b (Some v) rest) ≡ (b || is_some rest)
    found-by true v rest = refl
    found-by false v rest = refl

    pub in_turn-has : (es : List (K × ℕ)) → is_some (lookup test es) ≡ list_any test (in_turn es)
    in_turn-has [] = refl
    in_turn-has (e ∷ es) =
        found-by (test e.0) e.1 (lookup test es) ∙ ap (λ (rest : Bool). test e.0 || rest) (in_turn-has es) ∙ sym (any-placed e (by_number es))

    none-by : (found : Option ℕ) → is_some found ≡ false → found ≡ None
    none-by None none = refl
    none-by (Some n) none = absurd (cc)

    pub absent : (es : List (K × ℕ)) → list_any test (in_turn es) ≡ false → lookup test es ≡ None
    absent es none = none-by (lookup test es) (in_turn-has es ∙ none)
