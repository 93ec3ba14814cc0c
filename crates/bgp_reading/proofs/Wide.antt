-- Numbers in sixteen octets.
use Rattle.std.proofs.Common.{◌≡◌, ℕ, zero, suc, ◌+◌, ◌*◌, ◌-◌, ◌/◌, ◌%◌, ◌^◌, ◌<◌, ◌≤◌, Bool, true, false}
use Rattle.std.proofs.Common.{nat_lt, List, ◌++◌, length, take, slice_index, slice_set, refl, sym, ◌∙◌, ap, arith}
use Rattle.std.proofs.Math.Nat.{add-mul-mod_self_right, div-add-mod', mod-eq_of_lt, mul-mod_left, mul_assoc, pow-suc}
use Rattle.std.proofs.lemmas.Bool.{ltb-true, ltb-false}
use Rattle.std.proofs.lemmas.List.{get_or-set_other, get_or-set_same}
use Rattle.std.proofs.lemmas.Nat.{div-mul-add}
use lib.Pow.{pow-add, pow_pos}
use Rattle.std.specs.Int.{w128, byte_at, byte_worth, bytes_high_first, sum_through, to_be_bytes}
use Rattle.ip_ranges.proofs.BytesLemmas.{from_be_bytes-to_be_bytes_16}
use Rattle.bgp_reading.specs.Places.{wide_in}

sum-same : (f g : ℕ → ℕ) (k : ℕ) → ((i : ℕ) → i ≤ k → f i ≡ g i) → sum_through f k ≡ sum_through g k
sum-same f g zero same = same 0 (omega arith)
sum-same f g (suc k) same =
    let first = sum-same f g k (λ i le. same i (omega arith)) in
    ap (λ n. n + f (suc k)) first ∙ ap (λ n. sum_through g k + n) (same (suc k) (omega arith))

-- it is what the octets at sixteen places make it
pub wide-same : (xs ys : List ℕ) → ((i : ℕ) → i < 16 → slice_index xs i ≡ slice_index ys i) → wide_in xs ≡ wide_in ys
unfolding wide_in
wide-same xs ys same =
    sum-same (λ i. byte_worth (15 - i) (slice_index xs i)) (λ i. byte_worth (15 - i) (slice_index ys i)) 15
    (λ i le. ap (byte_worth (15 - i)) (same i (omega arith)))

-- it is read again, whatever follows it
pub wide-again : (n : ℕ) (rest : List ℕ) → n < 2 ^ 128 → wide_in (to_be_bytes w128 n ++ rest) ≡ n
unfolding wide_in
wide-again n rest fits = from_be_bytes-to_be_bytes_16 n fits

-- ---- low octets that are zero may be left out
pub power_256 : (m : ℕ) → 256 ^ m ≡ 2 ^ (8 * m)
power_256 zero = refl
power_256 (suc m) =
    let more : 8 * m + 8 ≡ 8 * suc m = omega arith in
    pow-suc 256 m ∙ ap (λ x. x * 256) (power_256 m) ∙ sym (pow-add 2 (8 * m) 8) ∙ ap (λ e. 2 ^ e) more

-- a number without its low bits is one without fewer of them
pub masked_bits : (n bits low : ℕ) → low ≤ bits → n % 2 ^ bits ≡ 0 → n % 2 ^ low ≡ 0
masked_bits n bits low few masked =
    let whole : 2 ^ bits ≡ 2 ^ (bits - low) * 2 ^ low = ap (λ e. 2 ^ e) (omega arith) ∙ pow-add 2 (bits - low) low in
    let by_bits : n ≡ n / 2 ^ bits * 2 ^ bits = sym (div-add-mod' n (2 ^ bits)) ∙ ap (λ r. n / 2 ^ bits * 2 ^ bits + r) masked ∙ omega arith in
    let by_low : n ≡ 0 + n / 2 ^ bits * 2 ^ (bits - low) * 2 ^ low =
    by_bits ∙ ap (λ m. n / 2 ^ bits * m) whole ∙ sym (mul_assoc (n / 2 ^ bits) (2 ^ (bits - low)) (2 ^ low)) ∙ omega arith in
    ap (λ x. x % 2 ^ low) by_low ∙ add-mul-mod_self_right 0 (n / 2 ^ bits * 2 ^ (bits - low)) (2 ^ low) ∙ mod-eq_of_lt (pow_pos low)

masked_bytes : (n bytes low : ℕ) → low ≤ bytes → n % 256 ^ bytes ≡ 0 → n % 256 ^ low ≡ 0
masked_bytes n bytes low few masked =
    let bits : n % 2 ^ (8 * bytes) ≡ 0 = ap (λ m. n % m) (sym (power_256 bytes)) ∙ masked in
    ap (λ m. n % m) (power_256 low) ∙ masked_bits n (8 * bytes) (8 * low) (omega arith) bits

quotient-zero : (n size : ℕ) → 0 < size → n % (size * 256) ≡ 0 → n / size % 256 ≡ 0
quotient-zero n size some masked =
    let q = n / (size * 256) in
    let is : n ≡ q * 256 * size + 0 =
    sym (div-add-mod' n (size * 256)) ∙ ap (λ r. q * (size * 256) + r) masked ∙ ap (λ m. m + 0) (sym (mul_assoc q size 256)) ∙ swapped q size in
    ap (λ m. m / size % 256) is ∙ ap (λ m. m % 256) (div-mul-add (q * 256) size 0 some) ∙ mul-mod_left q 256
  where
    swapped : (q size : ℕ) → q * size * 256 + 0 ≡ q * 256 * size + 0
    swapped q size = grind arith

byte-zero : (n bytes j : ℕ) → n % 256 ^ bytes ≡ 0 → j < bytes → byte_at j n ≡ 0
byte-zero n bytes zero masked low = masked_bytes n bytes 1 (omega arith) masked
byte-zero n bytes (suc j) masked low =
    let size = 256 ^ suc j in
    let some : 0 < 256 ^ suc j = (let e = power_256 (suc j) in let p = pow_pos (8 * suc j) in omega (arith, e, p)) in
    let here : n % (256 ^ suc j * 256) ≡ 0 = ap (λ m. n % m) (sym (pow-suc 256 (suc j))) ∙ masked_bytes n bytes (suc (suc j)) (omega arith) masked in
    quotient-zero n size some here

all-zero : (m n : ℕ) → ((j : ℕ) → j < m → byte_at j n ≡ 0) → (i : ℕ) → slice_index (bytes_high_first m n) i ≡ 0
all-zero zero n zeros i = refl
all-zero (suc m) n zeros zero = zeros m (omega arith)
all-zero (suc m) n zeros (suc i) = all-zero m n (λ j lt. zeros j (omega arith)) i

take-same : (m k n : ℕ) → ((j : ℕ) → j < m - k → byte_at j n ≡ 0) → (i : ℕ)
    → slice_index (take k (bytes_high_first m n)) i ≡ slice_index (bytes_high_first m n) i
take-same zero zero n zeros i = refl
take-same zero (suc k) n zeros i = refl
take-same (suc m) zero n zeros i = sym (all-zero (suc m) n (λ j lt. zeros j (omega arith)) i)
take-same (suc m) (suc k) n zeros zero = refl
take-same (suc m) (suc k) n zeros (suc i) = take-same m k n (λ j lt. zeros j (omega arith)) i

pub wide-front : (n k : ℕ) → n < 2 ^ 128 → n % 256 ^ (16 - k) ≡ 0 → wide_in (take k (to_be_bytes w128 n)) ≡ n
unfolding wide_in
wide-front n k fits masked =
    wide-same (take k (to_be_bytes w128 n)) (to_be_bytes w128 n) (λ i lt. take-same 16 k n (λ j low. byte-zero n (16 - k) j masked low) i)
    ∙ from_be_bytes-to_be_bytes_16 n fits

-- one octet more is known
pub set-known : (octets bytes : List ℕ) (place value : ℕ) → ((i : ℕ) → i < place → slice_index octets i ≡ slice_index bytes i) → place < length octets
    → value ≡ slice_index bytes place
    → (i : ℕ) → i < place + 1 → slice_index (slice_set octets place value) i ≡ slice_index bytes i
set-known octets bytes place value known within is i here = by (nat_lt i place) refl where
  by : (b : Bool) → nat_lt i place ≡ b → slice_index (slice_set octets place value) i ≡ slice_index bytes i
  by true first = get_or-set_other octets place i value 0 (λ e. omega (arith, e, ltb-true i place first)) ∙ known i (ltb-true i place first)
  by false last =
      let same : i ≡ place = omega (arith, ltb-false i place last) in
      ap (λ k. slice_index (slice_set octets place value) k) same ∙ get_or-set_same octets place value 0 within ∙ is ∙ ap (slice_index bytes) (sym same)
