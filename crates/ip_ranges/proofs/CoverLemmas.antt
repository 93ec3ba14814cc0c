-- The cover of a block of 2^bits numbers, by cases.
use Rattle.std.proofs.Common.{◌≡◌, ℕ, zero, suc, ◌+◌, ◌-◌, ◌*◌, ◌/◌, ◌%◌, ◌^◌, ◌<◌, ◌≤◌, ◌⊎◌, ⊎_elim, inl, inr, Bool, true, false, List, [], ◌∷◌}
use Rattle.std.proofs.Common.{◌++◌, refl, sym, ap, ◌∙◌, subst, arith, ltb-true, ltb-false, leb-true, leb-false, le-leb, leb, ltb, ◌&&◌, ◌||◌}
use Rattle.std.proofs.lemmas.Bool.{or_cases, or_parts, and_cases, and_from as and_all, and_parts}
use Rattle.std.proofs.Math.Nat.{pow-suc, add-mod_right}
use Rattle.std.proofs.lemmas.Nat.{mod-pow-add}
use Rattle.std.proofs.Math.Pow.{pow_pos}
use Rattle.ip_ranges.specs.declared.family.Family.{Family}
use Rattle.ip_ranges.specs.Values.{SpanValue, PrefixValue, width_of}
use Rattle.ip_ranges.proofs.BlockLemmas.{width_le as width_lt}
use Rattle.ip_ranges.specs.Cover.{IsPlaced, IsHalved, block, is_apart, is_inside, cover_within}

pub within-apart : (s : SpanValue) (bits base : ℕ) → is_apart s bits base ≡ true → cover_within s bits base ≡ []
unfolding cover_within
within-apart s zero base e = rw (cover_within, e) refl
within-apart s (suc bits) base e = rw (cover_within, e) refl

pub within-inside : (s : SpanValue) (bits base : ℕ) → is_apart s bits base ≡ false → is_inside s bits base ≡ true
    → cover_within s bits base ≡ block s bits base ∷ []
unfolding cover_within
within-inside s zero base e f = rw (cover_within, e) refl
within-inside s (suc bits) base e f = rw (cover_within, e, f) refl

within-suc : (s : SpanValue) (half base : ℕ) → is_apart s (suc half) base ≡ false → is_inside s (suc half) base ≡ false
    → cover_within s (suc half) base ≡ cover_within s half base ++ cover_within s half (base + 2 ^ half)
unfolding cover_within
within-suc s half base e f = rw (cover_within, e, f) refl

pub within-halves : (s : SpanValue) (bits half base : ℕ) → bits ≡ suc half → is_apart s bits base ≡ false → is_inside s bits base ≡ false
    → cover_within s bits base ≡ cover_within s half base ++ cover_within s half (base + 2 ^ half)
within-halves s bits half base is =
    subst (λ k. is_apart s k base ≡ false → is_inside s k base ≡ false
    → cover_within s k base ≡ cover_within s half base ++ cover_within s half (base + 2 ^ half))
    (sym is) (within-suc s half base)

-- What the tests say.

pub apart_yes : (s : SpanValue) (bits base : ℕ) → is_apart s bits base ≡ true → (base + (2 ^ bits - 1) < s.low) ⊎ (s.high < base)
apart_yes s bits base e = elim (or_cases (ltb (base + (2 ^ bits - 1)) s.low) (ltb s.high base) e) [
  | inl f ↦ inl (ltb-true _ _ f)
  | inr f ↦ inr (ltb-true _ _ f)
]

pub apart_no : (s : SpanValue) (bits base : ℕ) → is_apart s bits base ≡ false → (s.low ≤ base + (2 ^ bits - 1)) × (base ≤ s.high)
apart_no s bits base e =
    let (low, high) = or_parts (ltb (base + (2 ^ bits - 1)) s.low) (ltb s.high base) e in
    (ltb-false _ _ low, ltb-false _ _ high)

pub inside_no : (s : SpanValue) (bits base : ℕ) → is_inside s bits base ≡ false → (base < s.low) ⊎ (s.high < base + (2 ^ bits - 1))
inside_no s bits base e = elim (and_cases (leb s.low base) (leb (base + (2 ^ bits - 1)) s.high) e) [
  | inl f ↦ inl (leb-false _ _ f)
  | inr f ↦ inr (leb-false _ _ f)
]

pub inside_yes : (s : SpanValue) (bits base : ℕ) → is_inside s bits base ≡ true → (s.low ≤ base) × (base + (2 ^ bits - 1) ≤ s.high)
inside_yes s bits base e =
    let (low, high) = and_parts (leb s.low base) (leb (base + (2 ^ bits - 1)) s.high) e in
    (leb-true _ _ low, leb-true _ _ high)

-- what the code tests
pub read_apart : (s : SpanValue) (bits base ones : ℕ) (found said : Bool) → ones ≡ 2 ^ bits - 1 → found ≡ (ltb (base + ones) s.low || ltb s.high base)
    → found ≡ said → is_apart s bits base ≡ said
read_apart s bits base ones found said e f g = ap (λ n. ltb (base + n) s.low || ltb s.high base) (sym e) ∙ sym f ∙ g

pub read_inside : (s : SpanValue) (bits base ones : ℕ) (found said : Bool) → ones ≡ 2 ^ bits - 1 → found ≡ (leb s.low base && leb (base + ones) s.high)
    → found ≡ said → is_inside s bits base ≡ said
read_inside s bits base ones found said e f g = ap (λ n. leb s.low base && leb (base + n) s.high) (sym e) ∙ sym f ∙ g

-- Halves.

pub two_halves : (half : ℕ) → 2 ^ suc half ≡ 2 ^ half + 2 ^ half
two_halves half = omega (arith, pow-suc 2 half)

-- a multiple of a power is one of the power below
pub half_multiple : (half n : ℕ) → n % 2 ^ suc half ≡ 0 → n % 2 ^ half ≡ 0
half_multiple half n e =
    let one : 1 + half ≡ suc half = omega arith in
    let split : n % 2 ^ (1 + half) ≡ n / 2 ^ half % 2 ^ 1 * 2 ^ half + n % 2 ^ half = mod-pow-add n 1 half in
    let zero_sum : n % 2 ^ (1 + half) ≡ 0 = rw one e in
    omega arith

pub IsPlaced-lower : (s : SpanValue) (half base : ℕ) → IsPlaced s (suc half) base → IsPlaced s half base
IsPlaced-lower s half base placed =
    let double = two_halves half in
    let fits = placed.numbers_fit in
    let bits_fit = placed.bits_fit in
    record { bits_fit = omega arith; numbers_fit = omega arith; aligned = half_multiple half base placed.aligned }

pub IsPlaced-upper : (s : SpanValue) (half base : ℕ) → IsPlaced s (suc half) base → IsPlaced s half (base + 2 ^ half)
IsPlaced-upper s half base placed =
    let double = two_halves half in
    let fits = placed.numbers_fit in
    let bits_fit = placed.bits_fit in
    record { bits_fit = omega arith; numbers_fit = omega arith; aligned = add-mod_right base (2 ^ half) ∙ half_multiple half base placed.aligned }

-- What holds of the cover of each block: where the span has none of it, where it has all, and of the two halves together.
module _ (s : SpanValue) (P : ℕ → ℕ → List PrefixValue → Type 0)
    (none : (bits base : ℕ) → IsPlaced s bits base → (base + (2 ^ bits - 1) < s.low) ⊎ (s.high < base) → P bits base [])
    (whole : (bits base : ℕ) → IsPlaced s bits base → s.low ≤ base → base + (2 ^ bits - 1) ≤ s.high → P bits base (block s bits base ∷ []))
    (both : (bits base : ℕ) → IsPlaced s (suc bits) base → s.low ≤ base + (2 ^ suc bits - 1) → base ≤ s.high
    → (base < s.low) ⊎ (s.high < base + (2 ^ suc bits - 1)) → (lower upper : List PrefixValue) → P bits base lower → P bits (base + 2 ^ bits) upper
    → P (suc bits) base (lower ++ upper)) where
  pub by_halves : (bits base : ℕ) → IsPlaced s bits base → P bits base (cover_within s bits base)
  by_halves zero base placed = go (is_apart s 0 base) refl
    where
      go : (apart : Bool) → is_apart s 0 base ≡ apart → P 0 base (cover_within s 0 base)
      go true e = subst (P 0 base) (sym (within-apart s 0 base e)) (none 0 base placed (apart_yes s 0 base e))
      go false e =
          let (low, high) = apart_no s 0 base e in
          let all : is_inside s 0 base ≡ true = and_all _ _ (le-leb s.low base (omega arith)) (le-leb (base + (2 ^ 0 - 1)) s.high (omega arith)) in
          subst (P 0 base) (sym (within-inside s 0 base e all)) (whole 0 base placed (omega arith) (omega arith))
  by_halves (suc bits) base placed =
      go (is_apart s (suc bits) base) (is_inside s (suc bits) base) refl refl
      (by_halves bits base (IsPlaced-lower s bits base placed))
      (by_halves bits (base + 2 ^ bits) (IsPlaced-upper s bits base placed))
    where
      go : (apart inside : Bool) → is_apart s (suc bits) base ≡ apart → is_inside s (suc bits) base ≡ inside
          → P bits base (cover_within s bits base) → P bits (base + 2 ^ bits) (cover_within s bits (base + 2 ^ bits))
          → P (suc bits) base (cover_within s (suc bits) base)
      go true inside e f lower upper =
          subst (P (suc bits) base) (sym (within-apart s (suc bits) base e)) (none (suc bits) base placed (apart_yes s (suc bits) base e))
      go false true e f lower upper =
          let (low, high) = inside_yes s (suc bits) base f in
          subst (P (suc bits) base) (sym (within-inside s (suc bits) base e f)) (whole (suc bits) base placed low high)
      go false false e f lower upper =
          let (low, high) = apart_no s (suc bits) base e in
          subst (P (suc bits) base) (sym (within-suc s bits base e f)) (both bits base placed low high (inside_no s (suc bits) base f) _ _ lower upper)

-- Where the code goes on to the halves.

pub some_bits : (s : SpanValue) (bits base : ℕ) → is_apart s bits base ≡ false → is_inside s bits base ≡ false → bits ≡ suc (bits - 1)
some_bits s zero base e f =
    let (low, high) = apart_no s 0 base e in
    absurd (⊎_elim (λ below. omega arith) (λ above. omega arith) (inside_no s 0 base f))
some_bits s (suc bits) base e f = omega arith

pub middle_is : (half base ones : ℕ) → ones ≡ 2 ^ half - 1 → base + ones + 1 ≡ base + 2 ^ half
middle_is half base ones e = let positive = pow_pos half in omega arith

pub middle_fits : (s : SpanValue) (bits base : ℕ) → bits ≡ suc (bits - 1) → base + 2 ^ bits ≤ 2 ^ width_of s.family → base + 2 ^ (bits - 1) < 2 ^ 128
middle_fits s bits base some fits =
    let double : 2 ^ bits ≡ 2 ^ (bits - 1) + 2 ^ (bits - 1) = ap (λ k. 2 ^ k) some ∙ two_halves (bits - 1) in
    let positive = pow_pos (bits - 1) in
    width_lt s.family _ (omega arith)

pub halved : (s : SpanValue) (bits base ones : ℕ) → is_apart s bits base ≡ false → is_inside s bits base ≡ false → ones ≡ 2 ^ (bits - 1) - 1
    → IsHalved s bits base (bits - 1) (base + ones + 1)
halved s bits base ones e f is =
    let some = some_bits s bits base e f in
    let middle = middle_is (bits - 1) base ones is in
    record {
      halves = some;
      upper = middle;
      cover = within-halves s bits (bits - 1) base some e f ∙ ap (λ b. cover_within s (bits - 1) base ++ cover_within s (bits - 1) b) (sym middle);
    }

pub lower_placed : (s : SpanValue) (bits base half middle : ℕ) → IsPlaced s bits base → IsHalved s bits base half middle → IsPlaced s half base
lower_placed s bits base half middle placed halved = IsPlaced-lower s half base (subst (λ k. IsPlaced s k base) halved.halves placed)

pub upper_placed : (s : SpanValue) (bits base half middle : ℕ) → IsPlaced s bits base → IsHalved s bits base half middle → IsPlaced s half middle
upper_placed s bits base half middle placed halved =
    subst (IsPlaced s half) (sym halved.upper) (IsPlaced-upper s half base (subst (λ k. IsPlaced s k base) halved.halves placed))

-- the prefix that the code makes of a block
pub made_block : (f : Family) (low high bits base w : ℕ) (s : SpanValue) → record { family = f; low = low; high = high } ≡ s → w ≡ width_of f
    → ◌≡◌ {A = PrefixValue} (record { family = f; number = base; length = w - bits }) (block s bits base)
made_block f low high bits base w s is e =
    ap (λ k. record { family = f; number = base; length = k - bits }) e ∙ ap (λ (v : SpanValue). block v bits base) is
