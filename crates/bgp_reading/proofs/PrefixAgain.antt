-- Prefixes that are written are read again.
use Rattle.std.proofs.Common.{◌≡◌, ℕ, zero, suc, ◌+◌, ◌*◌, ◌-◌, ◌/◌, ◌%◌, ◌^◌, ◌<◌, ◌≤◌, List, [], ◌∷◌}
use Rattle.std.proofs.Common.{◌++◌, length, take, refl, sym, ◌∙◌, ap, arith, length-take}
use Rattle.std.proofs.Math.Nat.{div-add-mod'}
use Rattle.std.proofs.lemmas.List.{take_at, drop_at}
use Rattle.std.proofs.lemmas.Bool.{le-leb}
use Rattle.std.proofs.lemmas.Nat.{from_be_bytes-to_be_bytes_4}
use Rattle.std.specs.List.{AllByRecursion}
use Rattle.std.specs.Int.{w32, to_be_bytes}
use Rattle.ip_ranges.specs.Values.{PrefixValue, size_at, width_of}
use Rattle.ip_ranges.specs.declared.family.Family.{Family}
use Rattle.ip_ranges.specs.declared.family.Family.TheVariants.{V4, V6}
use Rattle.bgp_updates.specs.Message.{address_bytes, prefixes_bytes}
use Rattle.bgp_reading.specs.Places.{address_in, number_at, prefix_in, prefixes_in}
use Rattle.bgp_reading.specs.Update.{IsOf}
use Rattle.bgp_reading.proofs.PrefixWalk.{prefixes_behind-drop}
use Rattle.bgp_reading.proofs.Wide.{masked_bits, power_256, wide-front}

-- The octets that are left out are zero.
number_again : (n k : ℕ) → n < 2 ^ 32 → k ≤ 4 → n % 256 ^ (4 - k) ≡ 0 → number_at 0 (take k (to_be_bytes w32 n)) ≡ n
number_again n zero fits few masked = omega arith
number_again n (suc zero) fits few masked = omega arith
number_again n (suc (suc zero)) fits few masked = omega arith
number_again n (suc (suc (suc zero))) fits few masked = omega arith
number_again n (suc (suc (suc (suc zero)))) fits few masked = from_be_bytes-to_be_bytes_4 n fits
number_again n (suc (suc (suc (suc (suc k))))) fits few masked = absurd (omega arith)

address_again : (family : Family) (n k : ℕ) → n < 2 ^ width_of family → k ≤ width_of family / 8 → n % 256 ^ (width_of family / 8 - k) ≡ 0
    → address_in family (take k (address_bytes family n)) ≡ n
address_again V4 n k fits few masked = number_again n k fits few masked
address_again V6 n k fits few masked = wide-front n k fits masked

-- so many octets hold so many bits, and leave no more bits out
few-octets : (family : Family) (bits : ℕ) → bits ≤ width_of family → (bits + 7) / 8 ≤ width_of family / 8
few-octets V4 bits short = omega arith
few-octets V6 bits short = omega arith

few-left : (family : Family) (bits : ℕ) → bits ≤ width_of family → 8 * (width_of family / 8 - (bits + 7) / 8) ≤ width_of family - bits
few-left V4 bits short = omega arith
few-left V6 bits short = omega arith

length-address : (family : Family) (n : ℕ) → length (address_bytes family n) ≡ width_of family / 8
length-address V4 n = refl
length-address V6 n = refl

masked_octets : (family : Family) (n bits : ℕ) → bits ≤ width_of family → n % size_at family bits ≡ 0 → n % 256 ^ (width_of family / 8 - (bits + 7) / 8) ≡ 0
masked_octets family n bits short masked =
    let left = width_of family / 8 - (bits + 7) / 8 in
    ap (λ m. n % m) (power_256 left) ∙ masked_bits n (width_of family - bits) (8 * left) (few-left family bits short) masked

whole : (n size : ℕ) → n % size ≡ 0 → n / size * size ≡ n
whole n size masked = omega (arith, masked, div-add-mod' n size)

prefix_again : (family : Family) (p : PrefixValue) (octets : List ℕ) → p.family ≡ family → p.number % size_at family p.length ≡ 0
    → address_in family octets ≡ p.number → prefix_in family p.length octets ≡ p
prefix_again family p octets own masked number =
    let size = size_at family p.length in
    let with_number : ℕ → PrefixValue = λ n. record { family = family; number = n / size * size; length = p.length } in
    let plain : ℕ → PrefixValue = λ n. record { family = family; number = n; length = p.length } in
    let with_family : Family → PrefixValue = λ f. record { family = f; number = p.number; length = p.length } in
    ap with_number number ∙ ap plain (whole p.number size masked) ∙ ap with_family (sym own)

pub prefixes_again : (family : Family) (prefixes : List PrefixValue) → AllByRecursion (IsOf family) prefixes
    → prefixes_in family (prefixes_bytes prefixes) ≡ prefixes
prefixes_again family [] all = refl
prefixes_again family (p ∷ rest) all =
    let k = (p.length + 7) / 8 in
    let front = take k (address_bytes p.family p.number) in
    let short : p.length ≤ width_of family = rw all.0.own at all.0.is.0 in
    let fits : p.number < 2 ^ width_of family = rw all.0.own at all.0.is.1 in
    let masked : p.number % size_at family p.length ≡ 0 = rw all.0.own at all.0.is.2 in
    let few : k ≤ width_of family / 8 = few-octets family p.length short in
    let same : front ≡ take k (address_bytes family p.number) = ap (λ f. take k (address_bytes f p.number)) all.0.own in
    let long : length front ≡ k = ap length same ∙ length-take k (address_bytes family p.number) ∙ omega (arith, few, length-address family p.number) in
    let number : address_in family front ≡ p.number =
    ap (address_in family) same ∙ address_again family p.number k fits few (masked_octets family p.number p.length short masked) in
    let own : prefix_in family p.length front ≡ p = prefix_again family p front all.0.own masked number in
    rw (le-leb p.length (width_of family) short, take_at front (prefixes_bytes rest) k long, own) (
    ap (λ prefixes. p ∷ prefixes) (prefixes_behind-drop family k (front ++ prefixes_bytes rest)
    ∙ ap (prefixes_in family) (drop_at front (prefixes_bytes rest) k long) ∙ prefixes_again family rest all.1)
    )
