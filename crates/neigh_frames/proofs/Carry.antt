-- Sums of 16-bit numbers whose carry comes back.
use Rattle.std.proofs.Common.{◌≡◌, ℕ, zero, suc, ◌+◌, ◌-◌, ◌*◌, ◌<◌, List, [], ◌∷◌, ◌++◌, get_or, refl, ap, ◌∙◌, arith}
use Rattle.std.specs.Prelude.{nat_lt, true}
use Rattle.std.specs.List.{list_all}
use Rattle.std.proofs.lemmas.Bool.{and_parts, ltb-true}
use Rattle.neigh_frames.specs.Checksum.{plus, sum_from}

-- each number is a byte, and so is the 0 that is read after the last
abbrev pub AreBytes : List ℕ → Type 0
AreBytes bytes = (i : ℕ) → get_or bytes i 0 < 256

pub AreBytes-cons : (byte : ℕ) (bytes : List ℕ) → byte < 256 → AreBytes bytes → AreBytes (byte ∷ bytes)
AreBytes-cons byte bytes x b zero = x
AreBytes-cons byte bytes x b (suc i) = b i

pub AreBytes-literal : (bytes : List ℕ) → list_all (λ byte. nat_lt byte 256) bytes ≡ true → AreBytes bytes
AreBytes-literal [] all i = omega arith
AreBytes-literal (byte ∷ bytes) all i =
    let parts = and_parts (nat_lt byte 256) (list_all (λ b. nat_lt b 256) bytes) all in
    AreBytes-cons byte bytes (ltb-true byte 256 parts.0) (AreBytes-literal bytes parts.1) i

pub AreBytes-append : (front back : List ℕ) → AreBytes front → AreBytes back → AreBytes (front ++ back)
AreBytes-append [] back f b i = b i
AreBytes-append (x ∷ front) back f b zero = f zero
AreBytes-append (x ∷ front) back f b (suc i) = AreBytes-append front back (λ j. f (suc j)) b i

plus-below : (a b : ℕ) → a < 0x1_0000 → b < 0x1_0000 → plus a b < 0x1_0000
plus-below a b x y = omega arith

plus-comm : (a b : ℕ) → plus a b ≡ plus b a
plus-comm a b = omega arith

-- a number that is added first may be added last
plus-swap : (a b c : ℕ) → a < 0x1_0000 → b < 0x1_0000 → c < 0x1_0000 → plus (plus a b) c ≡ plus (plus a c) b
plus-swap a b c x y z = omega arith

pub plus-zero : (a : ℕ) → a < 0x1_0000 → plus a 0 ≡ a
plus-zero a x = omega arith

-- a number and its complement
pub plus-complement : (a : ℕ) → a < 0x1_0000 → plus a (0xffff - a) ≡ 0xffff
plus-complement a x = omega arith

high-below : (high : ℕ) → high < 256 → high * 256 < 0x1_0000
high-below high x = omega arith

word-below : (high low : ℕ) → high < 256 → low < 256 → high * 256 + low < 0x1_0000
word-below high low x y = omega arith

pub sum_from-below : (sum : ℕ) (bytes : List ℕ) → sum < 0x1_0000 → AreBytes bytes → sum_from sum bytes < 0x1_0000
sum_from-below sum [] s b = s
sum_from-below sum (last ∷ []) s b = plus-below sum (last * 256) s (high-below last (b 0))
sum_from-below sum (high ∷ low ∷ rest) s b =
    sum_from-below (plus sum (high * 256 + low)) rest (plus-below sum (high * 256 + low) s (word-below high low (b 0) (b 1))) (λ i. b (suc (suc i)))

-- a number that is added before the bytes may be added after them
pub sum_from-plus : (sum more : ℕ) (bytes : List ℕ) → sum < 0x1_0000 → more < 0x1_0000 → AreBytes bytes
    → sum_from (plus sum more) bytes ≡ plus (sum_from sum bytes) more
sum_from-plus sum more [] s m b = refl
sum_from-plus sum more (last ∷ []) s m b = plus-swap sum more (last * 256) s m (high-below last (b 0))
sum_from-plus sum more (high ∷ low ∷ rest) s m b =
    let word : high * 256 + low < 0x1_0000 = word-below high low (b 0) (b 1) in
    ap (λ n. sum_from n rest) (plus-swap sum more (high * 256 + low) s m word)
    ∙ sum_from-plus (plus sum (high * 256 + low)) more rest (plus-below sum (high * 256 + low) s word) m (λ i. b (suc (suc i)))
