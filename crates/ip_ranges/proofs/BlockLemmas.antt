-- Blocks of 2^k numbers.
use Rattle.std.proofs.Common.{◌≡◌, ℕ, ◌+◌, ◌-◌, ◌*◌, ◌/◌, ◌%◌, ◌^◌, ◌<◌, ◌≤◌, sym, ap, ◌∙◌, arith}
use Rattle.std.proofs.Math.Nat.{mul-mod_left, mul-le-mul_right}
use Rattle.std.proofs.Math.Pow.{split, shr_lt, pow_pos, pow-add}
use Rattle.std.proofs.lemmas.Nat.{and_mask}
use Rattle.std.proofs.lemmas.Nat.Bits.{ones_shr}
use Rattle.std.specs.Prelude.{bit_and}
use Rattle.ip_ranges.specs.declared.family.Family.{Family}
use Rattle.ip_ranges.specs.declared.family.Family.TheVariants.{V4, V6}
use Rattle.ip_ranges.specs.Values.{PrefixValue, IsPrefix, IsRange, masked, width_of, size_at}

-- the lowest k ones
pub shifted_ones : (k : ℕ) → k ≤ 128 → (2 ^ 128 - 1) / 2 ^ (128 - k) ≡ 2 ^ k - 1
shifted_ones k h =
    let back : 128 - (128 - k) ≡ k = omega arith in
    ones_shr 128 (128 - k) (omega arith) ∙ ap (λ j. 2 ^ j - 1) back

-- to take away the low bits is to round down
pub cleared : (n k : ℕ) → n - bit_and n (2 ^ k - 1) ≡ n / 2 ^ k * 2 ^ k
cleared n k =
    let low = and_mask n k in
    let both = split n k in
    omega arith

-- a number that is rounded down is a multiple
pub rounded_mod : (n k : ℕ) → n / 2 ^ k * 2 ^ k % 2 ^ k ≡ 0
rounded_mod n k = mul-mod_left (n / 2 ^ k) (2 ^ k)

-- the block of a number below 2^w lies below 2^w
pub block_within : (w k n : ℕ) → k ≤ w → n < 2 ^ w → n / 2 ^ k * 2 ^ k + 2 ^ k ≤ 2 ^ w
block_within w k n h fits =
    let parts : w - k + k ≡ w = omega arith in
    let product : 2 ^ w ≡ 2 ^ (w - k) * 2 ^ k = ap (λ j. 2 ^ j) (sym parts) ∙ pow-add 2 (w - k) k in
    let below : n < 2 ^ (w - k + k) = rw parts fits in
    let blocks : n / 2 ^ k + 1 ≤ 2 ^ (w - k) = omega (arith, shr_lt (w - k) k below) in
    let spread : (n / 2 ^ k + 1) * 2 ^ k ≤ 2 ^ (w - k) * 2 ^ k = mul-le-mul_right (2 ^ k) blocks in
    omega arith

-- the same of a multiple
pub multiple_within : (w k n : ℕ) → k ≤ w → n < 2 ^ w → n % 2 ^ k ≡ 0 → n + 2 ^ k ≤ 2 ^ w
multiple_within w k n h fits even =
    let whole = split n k in
    let room = block_within w k n h fits in
    omega arith

pub masked_by : (f : Family) (n l host : ℕ) → host ≡ 2 ^ (width_of f - l) - 1
    → ◌≡◌ {A = PrefixValue} (record { family = f; number = n - bit_and n host; length = l }) (masked (record { family = f; number = n }) l)
masked_by f n l host e =
    let number : n - bit_and n host ≡ n / size_at f l * size_at f l = rw e (cleared n (width_of f - l)) in
    ap (λ m. record { family = f; number = m; length = l }) number

pub IsPrefix-masked : (f : Family) (n l host : ℕ) → host ≡ 2 ^ (width_of f - l) - 1 → n < 2 ^ width_of f → l ≤ width_of f
    → IsPrefix (record { family = f; number = n - bit_and n host; length = l })
IsPrefix-masked f n l host e fits within =
    let number : n - bit_and n host ≡ n / size_at f l * size_at f l = rw e (cleared n (width_of f - l)) in
    (within, omega arith, rw number (rounded_mod n (width_of f - l)))

pub IsRange-span : (f : Family) (n l host : ℕ) → host ≡ 2 ^ (width_of f - l) - 1 → IsPrefix (record { family = f; number = n; length = l })
    → IsRange (record { family = f; low = n; high = n + host })
IsRange-span f n l host e (within, fits, even) =
    let room = multiple_within (width_of f) (width_of f - l) n (omega arith) fits even in
    let some = pow_pos (width_of f - l) in
    (omega arith, omega arith)

pub widest : (f : Family) → width_of f ≤ 128
widest V4 = omega arith
widest V6 = omega arith

pub width_le : (f : Family) (n : ℕ) → n < 2 ^ width_of f → n < 2 ^ 128
width_le V4 n h = omega arith
width_le V6 n h = h
