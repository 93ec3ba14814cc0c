-- The bytes of a number, and the groups of 16 bits that they make.
use Rattle.std.proofs.Common.{◌≡◌, ℕ, zero, suc, ◌+◌, ◌*◌, ◌/◌, ◌%◌, ◌^◌, ◌<◌, List, [], ◌∷◌, length, get_or, refl, arith}
use Rattle.std.proofs.Math.Nat.{div-div-eq-div-mul}
use Rattle.std.specs.Int.{w128, byte_at, bytes_high_first, to_be_bytes, from_be_bytes}
use Rattle.std.specs.Net.Addr.{segments_of, octets_of}

-- each is a byte
abbrev pub AreBytes : List ℕ → Type 0
AreBytes xs = (k : ℕ) → get_or xs k 0 < 2 ^ 8

byte_at-lt : (k n : ℕ) → byte_at k n < 2 ^ 8
byte_at-lt zero n = omega arith
byte_at-lt (suc k) n = omega arith

pub AreBytes-high_first : (k n : ℕ) → AreBytes (bytes_high_first k n)
AreBytes-high_first zero n i = omega arith
AreBytes-high_first (suc k) n zero = byte_at-lt k n
AreBytes-high_first (suc k) n (suc i) = AreBytes-high_first k n i

pub segments_fit : (xs : List ℕ) → AreBytes xs → (k : ℕ) → get_or (segments_of xs) k 0 < 2 ^ 16
segments_fit [] bytes k = omega arith
segments_fit (a ∷ []) bytes k = omega arith
segments_fit (a ∷ b ∷ xs) bytes zero = let high = bytes 0 in let low = bytes 1 in omega arith
segments_fit (a ∷ b ∷ xs) bytes (suc k) = segments_fit xs (λ i. bytes (suc (suc i))) k

-- an even count of bytes comes back from its groups
pub octets_of-segments_of : (xs : List ℕ) → AreBytes xs → length xs % 2 ≡ 0 → octets_of (segments_of xs) ≡ xs
octets_of-segments_of [] bytes even = refl
octets_of-segments_of (a ∷ []) bytes even = absurd (omega arith)
octets_of-segments_of (a ∷ b ∷ xs) bytes even =
    let high : (a * 256 + b) / 256 ≡ a = let small = bytes 1 in omega arith in
    let low : (a * 256 + b) % 256 ≡ b = let small = bytes 1 in omega arith in
    let rest = octets_of-segments_of xs (λ i. bytes (suc (suc i))) (omega arith) in
    rw (high, low, rest) refl

byte_and_rest : (n p : ℕ) → n / p ≡ n / p % 256 + n / (p * 256) * 256
byte_and_rest n p = omega (arith, div-div-eq-div-mul n p 256)

joined : (a b c d e f g h i j k l m o p q n n1 n2 n3 n4 n5 n6 n7 n8 n9 n10 n11 n12 n13 n14 n15 : ℕ)
    → n ≡ a + n1 * 256 → n1 ≡ b + n2 * 256 → n2 ≡ c + n3 * 256 → n3 ≡ d + n4 * 256
    → n4 ≡ e + n5 * 256 → n5 ≡ f + n6 * 256 → n6 ≡ g + n7 * 256 → n7 ≡ h + n8 * 256
    → n8 ≡ i + n9 * 256 → n9 ≡ j + n10 * 256 → n10 ≡ k + n11 * 256 → n11 ≡ l + n12 * 256
    → n12 ≡ m + n13 * 256 → n13 ≡ o + n14 * 256 → n14 ≡ p + n15 * 256 → n15 ≡ q
    → q * 256 ^ 15 + p * 256 ^ 14 + o * 256 ^ 13 + m * 256 ^ 12 + l * 256 ^ 11 + k * 256 ^ 10 + j * 256 ^ 9 + i * 256 ^ 8
    + h * 256 ^ 7 + g * 256 ^ 6 + f * 256 ^ 5 + e * 256 ^ 4 + d * 256 ^ 3 + c * 256 ^ 2 + b * 256 ^ 1 + a ≡ n
joined a b c d e f g h i j k l m o p q n n1 n2 n3 n4 n5 n6 n7 n8 n9 n10 n11 n12 n13 n14 n15 e0 e1 e2 e3 e4 e5 e6 e7 e8 e9 e10 e11 e12 e13 e14 e15 = omega arith

pub from_be_bytes-to_be_bytes_16 : (n : ℕ) → n < 2 ^ 128 → from_be_bytes w128 (to_be_bytes w128 n) ≡ n
from_be_bytes-to_be_bytes_16 n fits =
    let low : n ≡ n % 256 + n / 256 * 256 = omega arith in
    let high : n / 256 ^ 15 ≡ n / 256 ^ 15 % 256 = omega arith in
    joined _ _ _ _ _ _ _ _ _ _ _ _ _ _ _ _ n _ _ _ _ _ _ _ _ _ _ _ _ _ _ _ low
    (byte_and_rest n 256) (byte_and_rest n (256 ^ 2)) (byte_and_rest n (256 ^ 3)) (byte_and_rest n (256 ^ 4)) (byte_and_rest n (256 ^ 5))
    (byte_and_rest n (256 ^ 6)) (byte_and_rest n (256 ^ 7)) (byte_and_rest n (256 ^ 8)) (byte_and_rest n (256 ^ 9)) (byte_and_rest n (256 ^ 10))
    (byte_and_rest n (256 ^ 11)) (byte_and_rest n (256 ^ 12)) (byte_and_rest n (256 ^ 13)) (byte_and_rest n (256 ^ 14)) high
