-- The cover of a span is made of its numbers, ascends, and is the shortest such list.
use Rattle.std.proofs.Common.{◌≡◌, ℕ, suc, ◌+◌, ◌-◌, ◌*◌, ◌/◌, ◌%◌, ◌^◌, ◌<◌, ◌≤◌, ◌⊎◌, ⊎_elim, ◌↔◌, inl, inr, Bool}
use Rattle.std.proofs.Common.{true, false, ◌&&◌, cond, List, [], ◌∷◌, ◌++◌, length, refl, sym, ap, ◌∙◌, subst, arith}
use Rattle.std.proofs.Common.{ltb, leb, ltb-true, leb-true, lt-ltb, le-leb, eqb, eq-eqb, length-append, min, max}
use Rattle.std.proofs.lemmas.Bool.{or_cases, or_left, or_right, and_from, and_left, lt-leb, cases_lt, false≢true}
use Rattle.std.proofs.lemmas.List.Folds.{list_any-append}
use Rattle.std.proofs.lemmas.List.Sums.{count_by-le-length}
use Rattle.std.proofs.Math.Nat.{div-add-mod', mul-le-mul_right, zero-mod}
use Rattle.std.proofs.Math.Pow.{pow_pos, pow_mono}
use Rattle.std.proofs.lemmas.Nat.{mod-pow-add}
use Rattle.std.specs.List.{AllByRecursion, list_any}
use Rattle.std.specs.Prelude.{IsTrue, count_by}
use Rattle.mlb_base.proofs.Lists.{all-append, count-cons}
use Rattle.ip_ranges.specs.declared.family.Family.{Family}
use Rattle.ip_ranges.specs.declared.family.Family.TheVariants.{V4, V6}
use Rattle.ip_ranges.specs.Values.{SpanValue, PrefixValue, IsPrefix, IsRange, width_of}
use Rattle.ip_ranges.specs.Cover.{IsPlaced, size_of, has, IsAscending, IsCover, block, cover_within, cover_of, least_of, least_length_of}
use Rattle.ip_ranges.proofs.BlockLemmas.{multiple_within, widest}
use Rattle.ip_ranges.proofs.CoverLemmas.{IsPlaced-upper, by_halves, two_halves}

pub size_of-block : (s : SpanValue) (bits base : ℕ) → bits ≤ width_of s.family → size_of (block s bits base) ≡ 2 ^ bits
size_of-block s bits base h =
    let back : width_of s.family - (width_of s.family - bits) ≡ bits = omega arith in
    ap (λ k. 2 ^ k) back

all_map : {X : Type 0} (P Q : X → Type 0) (f : (x : X) → P x → Q x) (xs : List X) → AllByRecursion P xs → AllByRecursion Q xs
all_map P Q f [] h = h
all_map P Q f (x ∷ xs) h = (f x h.0, all_map P Q f xs h.1)

-- ---- Prefixes of the span's family

abbrev IsOf : SpanValue → PrefixValue → Type 0
IsOf s p = IsPrefix p × (p.family ≡ s.family)

pub IsPrefix-block : (s : SpanValue) (bits base : ℕ) → IsPlaced s bits base → IsPrefix (block s bits base)
IsPrefix-block s bits base placed =
    let some = pow_pos bits in
    let fits = placed.numbers_fit in
    (omega arith, omega arith, rw (size_of-block s bits base placed.bits_fit) placed.aligned)

within-prefixes : (s : SpanValue) (bits base : ℕ) → IsPlaced s bits base → AllByRecursion (IsOf s) (cover_within s bits base)
within-prefixes s =
    by_halves s (λ bits base ps. AllByRecursion (IsOf s) ps)
    (λ bits base placed apart. tt)
    (λ bits base placed low high. ((IsPrefix-block s bits base placed, refl), tt))
    (λ bits base placed low high part lower upper h k. all-append (IsOf s) lower upper h k)

-- ---- The numbers

has_yes : (p : PrefixValue) (n : ℕ) → has p n ≡ true → (p.number ≤ n) × (n < p.number + size_of p)
has_yes p n e = go (leb p.number n) (ltb n (p.number + size_of p)) refl refl e
  where
    go : (x y : Bool) → leb p.number n ≡ x → ltb n (p.number + size_of p) ≡ y → (x && y) ≡ true → (p.number ≤ n) × (n < p.number + size_of p)
    go true true a b f = (leb-true _ _ a, ltb-true _ _ b)
    go true false a b f = absurd (false≢true f)
    go false y a b f = absurd (false≢true f)

yes_has : (p : PrefixValue) (n : ℕ) → p.number ≤ n → n < p.number + size_of p → has p n ≡ true
yes_has p n low high = and_from _ _ (le-leb _ _ low) (lt-ltb _ _ high)

-- the number is in the block and in the span
abbrev InBoth : SpanValue → ℕ → ℕ → ℕ → Type 0
InBoth s bits base n = (base ≤ n) × (n < base + 2 ^ bits) × (s.low ≤ n) × (n ≤ s.high)

abbrev HasNumbers : SpanValue → ℕ → ℕ → List PrefixValue → Type 0
HasNumbers s bits base ps = (n : ℕ) → IsTrue (list_any (λ p. has p n) ps) ↔ InBoth s bits base n

within-numbers : (s : SpanValue) (bits base : ℕ) → IsPlaced s bits base → HasNumbers s bits base (cover_within s bits base)
within-numbers s =
    by_halves s (HasNumbers s)
    (λ bits base placed apart n. (λ e. absurd (false≢true e), λ (a, b, c, d). absurd (⊎_elim (λ below. omega arith) (λ above. omega arith) apart)))
    (λ bits base placed low high n.
    let size = size_of-block s bits base placed.bits_fit in
    let p = block s bits base in (
      λ e. ⊎_elim (λ f. let (a, b) = has_yes p n f in omega arith) (λ f. absurd (false≢true f)) (or_cases (has p n) false e),
      λ (a, b, c, d). or_left _ _ (yes_has p n a (omega arith)),
    ))
    (λ bits base placed low high part lower upper h k n.
    let double = two_halves bits in (
      λ e. ⊎_elim
          (λ f. let (a, b, c, d) = (h n).0 f in omega arith)
          (λ f. let (a, b, c, d) = (k n).0 f in omega arith)
          (or_cases _ _ (sym (list_any-append (λ p. has p n) lower upper) ∙ e)),
      λ (a, b, c, d). list_any-append (λ p. has p n) lower upper
          ∙ ⊎_elim
          (λ first. or_left _ _ ((h n).1 (a, first, c, d)))
          (λ second. or_right _ _ ((k n).1 (second, omega arith, c, d)))
          (cases_lt n (base + 2 ^ bits)),
    ))

-- ---- Ascending

-- the prefixes ascend, from a number on and up to another
abbrev Between : ℕ → ℕ → List PrefixValue → Type 0
Between low high [] = low ≤ high
Between low high (p ∷ ps) = (low ≤ p.number) × Between (p.number + size_of p) high ps

between_from : (least low high : ℕ) (ps : List PrefixValue) → least ≤ low → Between low high ps → Between least high ps
between_from least low high [] h k = omega arith
between_from least low high (p ∷ ps) h k = (omega arith, k.1)

between_append : (low middle high : ℕ) (ps qs : List PrefixValue) → Between low middle ps → Between middle high qs → Between low high (ps ++ qs)
between_append low middle high [] qs h k = between_from low middle high qs h k
between_append low middle high (p ∷ ps) qs h k = (h.0, between_append (p.number + size_of p) middle high ps qs h.1 k)

between_ascends : (low high : ℕ) (ps : List PrefixValue) → Between low high ps → IsAscending ps
between_ascends low high [] h = tt
between_ascends low high (p ∷ []) h = tt
between_ascends low high (p ∷ q ∷ rest) h = (h.1.0, between_ascends (p.number + size_of p) high (q ∷ rest) h.1)

within-between : (s : SpanValue) (bits base : ℕ) → IsPlaced s bits base → Between base (base + 2 ^ bits) (cover_within s bits base)
within-between s =
    by_halves s (λ bits base ps. Between base (base + 2 ^ bits) ps)
    (λ bits base placed apart. omega arith)
    (λ bits base placed low high. let size = size_of-block s bits base placed.bits_fit in (omega arith, omega arith))
    (λ bits base placed low high part lower upper h k.
    let double = two_halves bits in
    let end : base + 2 ^ bits + 2 ^ bits ≡ base + 2 ^ suc bits = omega arith in
    between_append base (base + 2 ^ bits) (base + 2 ^ suc bits) lower upper h (rw end at k))

-- ---- No list is shorter

-- multiples of one number lie that far apart
multiples_apart : (m a b : ℕ) → 0 < m → a % m ≡ 0 → b % m ≡ 0 → a < b → a + m ≤ b
multiples_apart m a b some at_a at_b less =
    let whole_a = div-add-mod' a m in
    let whole_b = div-add-mod' b m in
    let further : a / m < b / m = elim (cases_lt (a / m) (b / m)) [
      | inl less ↦ less
      | inr more ↦ absurd (let le : b / m * m ≤ a / m * m = mul-le-mul_right m more in omega arith)
    ] in
    let next : (a / m + 1) * m ≤ b / m * m = mul-le-mul_right m (omega arith) in
    omega arith

-- a multiple of a power is one of each lower power
multiple_of_lower : (j k n : ℕ) → j ≤ k → n % 2 ^ k ≡ 0 → n % 2 ^ j ≡ 0
multiple_of_lower j k n h e =
    let parts : k - j + j ≡ k = omega arith in
    let spread : n % 2 ^ (k - j + j) ≡ n / 2 ^ j % 2 ^ (k - j) * 2 ^ j + n % 2 ^ j = mod-pow-add n (k - j) j in
    let zero_sum : n % 2 ^ (k - j + j) ≡ 0 = rw parts e in
    omega arith

-- a prefix of the span's family that lies in the span
record Fits (s : SpanValue) (q : PrefixValue) : Type 0 where
  prefix : IsPrefix q
  family : q.family ≡ s.family
  low : s.low ≤ q.number
  high : q.number + size_of q ≤ s.high + 1

-- a prefix that has a number of the block lies in the block
abbrev Nested : ℕ → ℕ → PrefixValue → Type 0
Nested bits base q = q.number < base + 2 ^ bits → base < q.number + size_of q → (base ≤ q.number) × (q.number + size_of q ≤ base + 2 ^ bits)

-- a prefix in a block that the span doesn't have all of lies in one of the halves
in_half : (s : SpanValue) (bits base : ℕ) (q : PrefixValue) → IsPlaced s (suc bits) base → (base < s.low) ⊎ (s.high < base + (2 ^ suc bits - 1)) → Fits s q
    → base ≤ q.number → q.number + size_of q ≤ base + 2 ^ suc bits → (q.number + size_of q ≤ base + 2 ^ bits) ⊎ (base + 2 ^ bits ≤ q.number)
in_half s bits base q placed part fits from to =
    let double = two_halves bits in
    let q_bits = width_of q.family - q.length in
    let even = fits.prefix.2 in
    let q_low = fits.low in
    let q_high = fits.high in
    elim (cases_lt q.number (base + 2 ^ bits)) [
      | inr upper ↦ inr upper
      | inl lower ↦ elim (cases_lt bits q_bits) [
        | inl wide ↦
            let size : 2 ^ suc bits ≤ 2 ^ q_bits = pow_mono (omega arith) in
            absurd (⊎_elim (λ below. omega arith) (λ above. omega arith) part)
        | inr narrow ↦
            let middle : (base + 2 ^ bits) % 2 ^ q_bits ≡ 0 =
            multiple_of_lower q_bits bits (base + 2 ^ bits) narrow (IsPlaced-upper s bits base placed).aligned in
            inl (multiples_apart (2 ^ q_bits) q.number (base + 2 ^ bits) (pow_pos q_bits) even middle lower)
      ]
    ]

nested_lower : (s : SpanValue) (bits base : ℕ) (q : PrefixValue) → IsPlaced s (suc bits) base → (base < s.low) ⊎ (s.high < base + (2 ^ suc bits - 1)) → Fits s q
    → Nested (suc bits) base q → Nested bits base q
nested_lower s bits base q placed part fits nested before behind =
    let double = two_halves bits in
    let (from, to) = nested (omega arith) behind in
    ⊎_elim (λ lower. (from, lower)) (λ upper. absurd (omega arith)) (in_half s bits base q placed part fits from to)

nested_upper : (s : SpanValue) (bits base : ℕ) (q : PrefixValue) → IsPlaced s (suc bits) base → (base < s.low) ⊎ (s.high < base + (2 ^ suc bits - 1)) → Fits s q
    → Nested (suc bits) base q → Nested bits (base + 2 ^ bits) q
nested_upper s bits base q placed part fits nested before behind =
    let double = two_halves bits in
    let (from, to) = nested (omega arith) (omega arith) in
    ⊎_elim (λ lower. absurd (omega arith)) (λ upper. (upper, omega arith)) (in_half s bits base q placed part fits from to)

-- whether the prefix begins in the block
abbrev begins : ℕ → ℕ → PrefixValue → Bool
begins bits base q = leb base q.number && ltb q.number (base + 2 ^ bits)

begins_yes : (bits base : ℕ) (q : PrefixValue) → begins bits base q ≡ true → (base ≤ q.number) × (q.number < base + 2 ^ bits)
begins_yes bits base q e = go (leb base q.number) (ltb q.number (base + 2 ^ bits)) refl refl e
  where
    go : (x y : Bool) → leb base q.number ≡ x → ltb q.number (base + 2 ^ bits) ≡ y → (x && y) ≡ true → (base ≤ q.number) × (q.number < base + 2 ^ bits)
    go true true a b f = (leb-true _ _ a, ltb-true _ _ b)
    go true false a b f = absurd (false≢true f)
    go false y a b f = absurd (false≢true f)

yes_begins : (bits base : ℕ) (q : PrefixValue) → base ≤ q.number → q.number < base + 2 ^ bits → begins bits base q ≡ true
yes_begins bits base q low high = and_from _ _ (le-leb _ _ low) (lt-ltb _ _ high)

-- two tests that exclude each other, and a third that holds where either does
one_of : (a b c : Bool) → (a ≡ true → (c ≡ true) × (b ≡ false)) → (b ≡ true → c ≡ true) → cond a 1 0 + cond b 1 0 ≤ cond c 1 0
one_of true b true first second = let none = (first refl).1 in rw none (omega arith)
one_of true b false first second = absurd (false≢true (first refl).0)
one_of false true true first second = omega arith
one_of false true false first second = absurd (false≢true (second refl))
one_of false false c first second = omega arith

count_both : {X : Type 0} (one two all : X → Bool) → ((x : X) → one x ≡ true → (all x ≡ true) × (two x ≡ false)) → ((x : X) → two x ≡ true → all x ≡ true)
    → (xs : List X) → count_by one xs + count_by two xs ≤ count_by all xs
count_both one two all first second [] = omega arith
count_both one two all first second (x ∷ xs) =
    let here = one_of (one x) (two x) (all x) (first x) (second x) in
    let rest = count_both one two all first second xs in
    omega (arith, count-cons one x xs, count-cons two x xs, count-cons all x xs)

-- where some element passes, and what passes is counted, something is counted
counts_some : {X : Type 0} (test counted : X → Bool) (P : X → Type 0) → ((x : X) → P x → test x ≡ true → counted x ≡ true)
    → (xs : List X) → AllByRecursion P xs → list_any test xs ≡ true → 1 ≤ count_by counted xs
counts_some test counted P passes [] h e = absurd (false≢true e)
counts_some test counted P passes (x ∷ xs) h e =
    ⊎_elim
    (λ here. let one : cond {A = ℕ} (counted x) 1 0 ≡ 1 = ap (λ (b : Bool). cond {A = ℕ} b 1 0) (passes x h.0 here) in omega (arith, count-cons counted x xs))
    (λ later. let rest = counts_some test counted P passes xs h.1 later in omega (arith, count-cons counted x xs))
    (or_cases (test x) _ e)

-- each prefix of a list that is made of the span's numbers lies in the span
all_fit : (s : SpanValue) (qs : List PrefixValue) → AllByRecursion (IsOf s) qs → ((n : ℕ) → list_any (λ q. has q n) qs ≡ true → (s.low ≤ n) × (n ≤ s.high))
    → AllByRecursion (Fits s) qs
all_fit s [] h within = tt
all_fit s (q ∷ qs) h within =
    let some = pow_pos (width_of q.family - q.length) in
    let first = within q.number (or_left _ _ (yes_has q q.number (omega arith) (omega arith))) in
    let last = within (q.number + (size_of q - 1)) (or_left _ _ (yes_has q (q.number + (size_of q - 1)) (omega arith) (omega arith))) in
    (record { prefix = h.0.0; family = h.0.1; low = first.0; high = omega arith }, all_fit s qs h.1 (λ n e. within n (or_right _ _ e)))

-- those of the prefixes that begin in a block are at least as many as its cover has
module _ (s : SpanValue) (qs : List PrefixValue) (fit : AllByRecursion (Fits s) qs)
    (numbers : (n : ℕ) → s.low ≤ n → n ≤ s.high → list_any (λ q. has q n) qs ≡ true) where
  abbrev IsFewest : ℕ → ℕ → List PrefixValue → Type 0
  IsFewest bits base ps = AllByRecursion (Nested bits base) qs → length ps ≤ count_by (begins bits base) qs

  halves_nested : (bits base : ℕ) → IsPlaced s (suc bits) base → (base < s.low) ⊎ (s.high < base + (2 ^ suc bits - 1))
      → (rs : List PrefixValue) → AllByRecursion (Fits s) rs → AllByRecursion (Nested (suc bits) base) rs
      → AllByRecursion (Nested bits base) rs × AllByRecursion (Nested bits (base + 2 ^ bits)) rs
  halves_nested bits base placed part [] f h = (tt, tt)
  halves_nested bits base placed part (q ∷ rs) f h =
      let (lower, upper) = halves_nested bits base placed part rs f.1 h.1 in
      ((nested_lower s bits base q placed part f.0 h.0, lower), (nested_upper s bits base q placed part f.0 h.0, upper))

  halves_counted : (bits base : ℕ) → count_by (begins bits base) qs + count_by (begins bits (base + 2 ^ bits)) qs ≤ count_by (begins (suc bits) base) qs
  halves_counted bits base =
      let double = two_halves bits in
      count_both (begins bits base) (begins bits (base + 2 ^ bits)) (begins (suc bits) base)
      (λ q e. let (from, to) = begins_yes bits base q e in
      (yes_begins (suc bits) base q from (omega arith), and_left _ _ (lt-leb (base + 2 ^ bits) q.number to)))
      (λ q e. let (from, to) = begins_yes bits (base + 2 ^ bits) q e in yes_begins (suc bits) base q (omega arith) (omega arith))
      qs

  within-fewest : (bits base : ℕ) → IsPlaced s bits base → IsFewest bits base (cover_within s bits base)
  within-fewest =
      by_halves s IsFewest
      (λ bits base placed apart nested. omega arith)
      (λ bits base placed low high nested.
      let some = pow_pos bits in
      counts_some (λ q. has q base) (begins bits base) (Nested bits base)
      (λ q inside e. let (from, to) = has_yes q base e in let (low', high') = inside (omega arith) to in yes_begins bits base q low' (omega arith))
      qs nested (numbers base low (omega arith)))
      (λ bits base placed low high part lower upper h k nested.
      let (nested_low, nested_high) = halves_nested bits base placed part qs fit nested in
      let counted = halves_counted bits base in
      let first = h nested_low in
      let second = k nested_high in
      omega (arith, length-append lower upper))

all_nested : (s : SpanValue) (qs : List PrefixValue) → AllByRecursion (Fits s) qs → AllByRecursion (Nested (width_of s.family) 0) qs
all_nested s qs fit = all_map (Fits s) (Nested (width_of s.family) 0) (λ q f. λ before behind. (omega arith, within_family s q f)) qs fit
  where
    within_family : (s : SpanValue) (q : PrefixValue) → Fits s q → q.number + size_of q ≤ 0 + 2 ^ width_of s.family
    within_family s q f =
        let room = multiple_within (width_of q.family) (width_of q.family - q.length) q.number (omega arith) f.prefix.1 f.prefix.2 in
        subst (λ g. q.number + size_of q ≤ 0 + 2 ^ width_of g) f.family (omega arith)

pub IsPlaced-all : (s : SpanValue) → IsPlaced s (width_of s.family) 0
IsPlaced-all s = record { bits_fit = omega arith; numbers_fit = omega arith; aligned = zero-mod (2 ^ width_of s.family) }

pub IsCover-cover_of : (s : SpanValue) → IsRange s → IsCover s (cover_of s)
unfolding cover_of
IsCover-cover_of s range =
    let w = width_of s.family in
    let placed = IsPlaced-all s in
    record {
      made = record {
        prefixes = within-prefixes s w 0 placed;
        numbers = λ n. (
          λ e. let (a, b, c, d) = (within-numbers s w 0 placed n).0 e in (c, d),
          λ (c, d). let fits = range.1 in (within-numbers s w 0 placed n).1 (omega arith, omega arith, c, d),
        );
      };
      ascending = between_ascends 0 (0 + 2 ^ w) _ (within-between s w 0 placed);
      shortest = λ qs made.
          let fit = all_fit s qs made.prefixes (λ n e. (made.numbers n).0 e) in
          let fewest = within-fewest s qs fit (λ n a b. (made.numbers n).1 (a, b)) w 0 placed (all_nested s qs fit) in
          omega (arith, count_by-le-length (begins w 0) qs);
    }

-- ---- At most two prefixes a bit

-- how many prefixes a block's cover has: where the span has none of it, all of it, its end, its start, or some
record IsShort (s : SpanValue) (bits base : ℕ) (ps : List PrefixValue) : Type 0 where
  none : (base + (2 ^ bits - 1) < s.low) ⊎ (s.high < base) → length ps ≡ 0
  whole : s.low ≤ base → base + (2 ^ bits - 1) ≤ s.high → length ps ≤ 1
  start : s.low ≤ base → length ps ≤ bits + 1
  end : base + (2 ^ bits - 1) ≤ s.high → length ps ≤ bits + 1
  some : length ps ≤ max 1 (2 * bits)

both_short : (s : SpanValue) (bits base : ℕ) → IsPlaced s (suc bits) base → s.low ≤ base + (2 ^ suc bits - 1) → base ≤ s.high
    → (base < s.low) ⊎ (s.high < base + (2 ^ suc bits - 1)) → (lower upper : List PrefixValue) → IsShort s bits base lower
    → IsShort s bits (base + 2 ^ bits) upper
    → IsShort s (suc bits) base (lower ++ upper)
both_short s bits base placed low high part lower upper h k =
    let double = two_halves bits in
    let positive = pow_pos bits in
    let total = length-append lower upper in
    record {
      none = λ apart. absurd (⊎_elim (λ below. omega arith) (λ above. omega arith) apart);
      whole = λ from to. absurd (⊎_elim (λ below. omega arith) (λ above. omega arith) part);
      start = λ from. elim (cases_lt s.high (base + 2 ^ bits)) [
        | inl before ↦ let nothing = k.none (inr before) in let first = h.start from in omega arith
        | inr behind ↦ let first = h.whole from (omega arith) in let second = k.start (omega arith) in omega arith
      ];
      end = λ to. elim (cases_lt (base + (2 ^ bits - 1)) s.low) [
        | inl before ↦ let nothing = h.none (inl before) in let second = k.end (omega arith) in omega arith
        | inr behind ↦ let first = h.end (omega arith) in let second = k.whole (omega arith) (omega arith) in omega arith
      ];
      some = elim (cases_lt s.high (base + 2 ^ bits)) [
        | inl before ↦ let nothing = k.none (inr before) in let first = h.some in omega arith
        | inr behind ↦ elim (cases_lt (base + (2 ^ bits - 1)) s.low) [
          | inl after ↦ let nothing = h.none (inl after) in let second = k.some in omega arith
          | inr begun ↦ let first = h.end (omega arith) in let second = k.start (omega arith) in omega arith
        ]
      ];
    }

within-short : (s : SpanValue) (bits base : ℕ) → IsPlaced s bits base → IsShort s bits base (cover_within s bits base)
within-short s =
    by_halves s (IsShort s)
    (λ bits base placed apart. record { none = λ _. refl; whole = λ _ _. omega arith; start = λ _. omega arith; end = λ _. omega arith; some = omega arith })
    (λ bits base placed low high. record {
      none = λ apart. let positive = pow_pos bits in absurd (⊎_elim (λ below. omega arith) (λ above. omega arith) apart);
      whole = λ _ _. omega arith;
      start = λ _. omega arith;
      end = λ _. omega arith;
      some = omega arith;
    })
    (both_short s)

some_width : (f : Family) → 1 ≤ width_of f
some_width V4 = omega arith
some_width V6 = omega arith

pub length-cover_of : (s : SpanValue) → length (cover_of s) ≤ 2 * width_of s.family
unfolding cover_of
length-cover_of s =
    let short = (within-short s (width_of s.family) 0 (IsPlaced-all s)).some in
    let positive = some_width s.family in
    omega arith

-- ---- The least length

least_of-le : (ps : List PrefixValue) → least_of ps ≤ 128
least_of-le [] = omega arith
least_of-le (p ∷ ps) = let rest = least_of-le ps in omega arith

pub least_of-append : (ps qs : List PrefixValue) → least_of (ps ++ qs) ≡ min (least_of ps) (least_of qs)
least_of-append [] qs = let small = least_of-le qs in omega arith
least_of-append (p ∷ ps) qs = let rest = least_of-append ps qs in omega arith

all_at_least : (least : ℕ) (ps : List PrefixValue) → least ≤ least_of ps → AllByRecursion (λ p. least ≤ p.length) ps
all_at_least least [] h = tt
all_at_least least (p ∷ ps) h = (omega arith, all_at_least least ps (omega arith))

-- in a list of which one is at most 128, the least length is that of a prefix
least_found : (least : ℕ) (ps : List PrefixValue) → least ≡ least_of ps → 0 < length ps → AllByRecursion (λ p. p.length ≤ 128) ps
    → IsTrue (list_any (λ p. eqb p.length least) ps)
least_found least [] e some h = absurd (omega arith)
least_found least (p ∷ []) e some h = or_left _ _ (eq-eqb p.length least (let small = h.0 in omega arith))
least_found least (p ∷ q ∷ rest) e some h = elim (cases_lt (least_of (q ∷ rest)) p.length) [
  | inl later ↦ or_right _ _ (least_found least (q ∷ rest) (omega arith) (omega arith) h.1)
  | inr here ↦ or_left _ _ (eq-eqb p.length least (omega arith))
]

some_prefix : (test : PrefixValue → Bool) (ps : List PrefixValue) → list_any test ps ≡ true → 0 < length ps
some_prefix test [] e = absurd (false≢true e)
some_prefix test (p ∷ ps) e = omega arith

pub least_length_of-least : (s : SpanValue) → AllByRecursion (λ p. least_length_of s ≤ p.length) (cover_of s)
unfolding least_length_of
least_length_of-least s = all_at_least (least_of (cover_of s)) (cover_of s) (omega arith)

pub least_length_of-found : (s : SpanValue) → IsRange s → IsTrue (list_any (λ p. eqb p.length (least_length_of s)) (cover_of s))
unfolding least_length_of
least_length_of-found s range =
    let made = (IsCover-cover_of s range).made in
    let some = some_prefix (λ p. has p s.low) (cover_of s) ((made.numbers s.low).1 (omega arith, range.0)) in
    let small = all_map (IsOf s) (λ p. p.length ≤ 128) (λ p h. let fits = h.0.0 in let wide = widest p.family in omega arith) (cover_of s) made.prefixes in
    least_found _ (cover_of s) refl some small

pub within_all : (s : SpanValue) (w : ℕ) → w ≡ width_of s.family → cover_within s w 0 ≡ cover_of s
unfolding cover_of
within_all s w e = ap (λ k. cover_within s k 0) e

pub least_length_of-within : (s : SpanValue) (w : ℕ) → w ≡ width_of s.family → least_of (cover_within s w 0) ≡ least_length_of s
unfolding least_length_of
least_length_of-within s w e = ap least_of (within_all s w e)
