-- A prefix is the block of the numbers with one quotient.
use Rattle.std.proofs.Common.{◌≡◌, ℕ, ◌+◌, ◌-◌, ◌*◌, ◌/◌, ◌%◌, ◌^◌, ◌<◌, ◌≤◌, refl, sym, ap, ◌∙◌, subst, arith}
use Rattle.std.proofs.Math.Nat.{div-eq_of_lt-le, div-mul-le_self, lt-div-mul-add, mod-eq-sub-div-mul, mul-mod_left}
use Rattle.std.proofs.Math.Pow.{pow_pos}
use Rattle.ip_ranges.specs.declared.family.Family.{Family}
use Rattle.ip_ranges.specs.declared.family.Family.TheVariants.{V4, V6}
use Rattle.ip_ranges.specs.Values.{AddressValue, PrefixValue, Holds, IsPrefix, masked, size_at, span_of, width_of}
use Rattle.prefix_laws.specs.Prefixes.{bits_of, Begins, IsPrefixOf, MaskedIsTheOnePrefix, PrefixesHoldWhatBeginsSo}

-- a multiple is the quotient times the size
whole : (n s : ℕ) → n % s ≡ 0 → n / s * s ≡ n
whole n s even = omega (arith, mod-eq-sub-div-mul n s, div-mul-le_self n s)

of-block : (n x s : ℕ) → 0 < s → n % s ≡ 0 → n ≤ x → x ≤ n + (s - 1) → x / s ≡ n / s
of-block n x s some even low high =
    let is = whole n s even in
    div-eq_of_lt-le s (omega (arith, is, low)) (omega (arith, is, high, some))

in-block : (n x s : ℕ) → 0 < s → n % s ≡ 0 → x / s ≡ n / s → (n ≤ x) × (x ≤ n + (s - 1))
in-block n x s some even e =
    let is = whole n s even in
    let same : x / s * s ≡ n / s * s = ap (λ q. q * s) e in
    let low = div-mul-le_self x s in
    let high : x < x / s * s + s = lt-div-mul-add some in
    (omega arith, omega arith)

width : (f : Family) → bits_of f ≡ width_of f
width V4 = refl
width V6 = refl

size : (f : Family) (l : ℕ) → 2 ^ (bits_of f - l) ≡ size_at f l
size f l = ap (λ w. 2 ^ (w - l)) (width f)

some_at : (f : Family) (l : ℕ) → 0 < size_at f l
some_at f l = pow_pos (width_of f - l)

pub prefixes_hold : PrefixesHoldWhatBeginsSo
prefixes_hold p a is = (
  λ holds. record {
    family = holds.0;
    bits = subst (λ s. a.number / s ≡ p.number / s) (sym (size p.family p.length))
        (of-block p.number a.number (size_at p.family p.length) (some_at p.family p.length) is.2 holds.1 holds.2);
  },
  λ begins.
      let between = in-block p.number a.number (size_at p.family p.length) (some_at p.family p.length) is.2
      (subst (λ s. a.number / s ≡ p.number / s) (size p.family p.length) begins.bits) in
      (begins.family, between.0, between.1),
)

holds_its_address : (a : AddressValue) (l : ℕ) → a.number < 2 ^ width_of a.family → l ≤ width_of a.family → IsPrefixOf a l (masked a l)
holds_its_address a l fits within =
    let s = size_at a.family l in
    let low = div-mul-le_self a.number s in
    let high : a.number < a.number / s * s + s = lt-div-mul-add (some_at a.family l) in
    record {
      length_is = refl;
      prefix = (within, omega (arith, low, fits), mul-mod_left (a.number / s) s);
      holds = (refl, low, omega (arith, high));
    }

no_other : (a : AddressValue) (l : ℕ) (p : PrefixValue) → IsPrefixOf a l p → p ≡ masked a l
no_other a l p is =
    let s = size_at p.family p.length in
    let quotient : a.number / s ≡ p.number / s = of-block p.number a.number s (some_at p.family p.length) is.prefix.2 is.holds.1 is.holds.2 in
    let own : p.number ≡ a.number / s * s = sym (whole p.number s is.prefix.2) ∙ ap (λ q. q * s) (sym quotient) in
    let sizes : s ≡ size_at a.family l = λ i. size_at (is.holds.0 i) (is.length_is i) in
    let number : p.number ≡ a.number / size_at a.family l * size_at a.family l = own ∙ ap (λ k. a.number / k * k) sizes in
    λ i. record { family = is.holds.0 i; number = number i; length = is.length_is i }

pub masked_is_one : MaskedIsTheOnePrefix
masked_is_one a l fits within = (
  holds_its_address a l (subst (λ w. a.number < 2 ^ w) (width a.family) fits) (subst (λ w. l ≤ w) (width a.family) within),
  no_other a l,
)
