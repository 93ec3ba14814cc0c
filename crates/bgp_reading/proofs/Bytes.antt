-- Octets are below 256, and what stands in four of them has 32 bits, and in sixteen of them 128.
use Rattle.std.proofs.Common.{ℕ, zero, suc, ◌+◌, ◌<◌, ◌^◌, true, false, cond, List, [], ◌∷◌, get_or, take, drop, slice_index, arith}
use Rattle.std.specs.List.{AllByRecursion}
use Rattle.std.specs.Int.{w32, from_be_bytes}
use Rattle.mlb_base.proofs.Lists.{all-take, all-drop}
use Rattle.ip_ranges.specs.declared.family.Family.{Family}
use Rattle.ip_ranges.specs.declared.family.Family.TheVariants.{V4, V6}
use Rattle.ip_ranges.specs.Values.{width_of}
use Rattle.bgp_reading.specs.Places.{address_in, behind_at, behind_size, is_extended, is_of_type, number_at, numbers_in, value_at, value_size, wide_in}

abbrev pub AreOctets : List ℕ → Type 0
AreOctets bytes = AllByRecursion (λ b. b < 256) bytes

pub octets-from : (bytes : List ℕ) → ((i : ℕ) → get_or bytes i 0 < 256) → AreOctets bytes
octets-from [] each = tt
octets-from (b ∷ rest) each = (each 0, octets-from rest (λ i. each (suc i)))

pub octets-take : (count : ℕ) (bytes : List ℕ) → AreOctets bytes → AreOctets (take count bytes)
octets-take = all-take (λ (b : ℕ). b < 256)

pub octets-drop : (count : ℕ) (bytes : List ℕ) → AreOctets bytes → AreOctets (drop count bytes)
octets-drop = all-drop (λ (b : ℕ). b < 256)

octet-at : (place : ℕ) (bytes : List ℕ) → AreOctets bytes → slice_index bytes place < 256
octet-at place [] all = omega arith
octet-at zero (b ∷ rest) all = all.0
octet-at (suc place) (b ∷ rest) all = octet-at place rest all.1

number-fits : (a b c d : ℕ) → a < 256 → b < 256 → c < 256 → d < 256 → from_be_bytes w32 (a ∷ b ∷ c ∷ d ∷ []) < 2 ^ 32
number-fits a b c d fa fb fc fd = omega arith

pub number_at-fits : (place : ℕ) (bytes : List ℕ) → AreOctets bytes → number_at place bytes < 2 ^ 32
number_at-fits place bytes all =
    number-fits (slice_index bytes place) (slice_index bytes (place + 1)) (slice_index bytes (place + 2)) (slice_index bytes (place + 3))
    (octet-at place bytes all) (octet-at (place + 1) bytes all) (octet-at (place + 2) bytes all) (octet-at (place + 3) bytes all)

pub numbers_in-fit : (bytes : List ℕ) → AreOctets bytes → AllByRecursion (λ n. n < 2 ^ 32) (numbers_in bytes)
numbers_in-fit [] all = tt
numbers_in-fit (a ∷ []) all = tt
numbers_in-fit (a ∷ b ∷ []) all = tt
numbers_in-fit (a ∷ b ∷ c ∷ []) all = tt
numbers_in-fit (a ∷ b ∷ c ∷ d ∷ rest) all =
    (number-fits a b c d all.0 all.1.0 all.1.1.0 all.1.1.1.0, numbers_in-fit rest all.1.1.1.1)

pub wide_in-fits : (bytes : List ℕ) → AreOctets bytes → wide_in bytes < 2 ^ 128
unfolding wide_in
wide_in-fits bytes all =
    omega (
      arith,
      octet-at 0 bytes all,
      octet-at 1 bytes all,
      octet-at 2 bytes all,
      octet-at 3 bytes all,
      octet-at 4 bytes all,
      octet-at 5 bytes all,
      octet-at 6 bytes all,
      octet-at 7 bytes all,
      octet-at 8 bytes all,
      octet-at 9 bytes all,
      octet-at 10 bytes all,
      octet-at 11 bytes all,
      octet-at 12 bytes all,
      octet-at 13 bytes all,
      octet-at 14 bytes all,
      octet-at 15 bytes all,
    )

pub address_in-fits : (family : Family) (octets : List ℕ) → AreOctets octets → address_in family octets < 2 ^ width_of family
address_in-fits V4 octets all = number_at-fits 0 octets all
address_in-fits V6 octets all = wide_in-fits octets all

-- ---- attributes
octets-behind_size : (rest : List ℕ) → AreOctets rest → AreOctets (behind_size rest)
octets-behind_size rest all = elim (is_extended rest) as (λ v. AreOctets (cond v (drop 4 rest) (drop 3 rest))) [
  | true ↦ octets-drop 4 rest all
  | false ↦ octets-drop 3 rest all
]

pub octets-value_at : (kind : ℕ) (rest : List ℕ) → AreOctets rest → AreOctets (value_at kind rest)
unfolding value_at
octets-value_at kind rest all = elim (is_of_type kind rest) as (λ v. AreOctets (cond v (take (value_size rest) (behind_size rest)) [])) [
  | true ↦ octets-take (value_size rest) (behind_size rest) (octets-behind_size rest all)
  | false ↦ tt
]

pub octets-behind_at : (kind : ℕ) (rest : List ℕ) → AreOctets rest → AreOctets (behind_at kind rest)
unfolding behind_at
octets-behind_at kind rest all = elim (is_of_type kind rest) as (λ v. AreOctets (cond v (drop (value_size rest) (behind_size rest)) rest)) [
  | true ↦ octets-drop (value_size rest) (behind_size rest) (octets-behind_size rest all)
  | false ↦ all
]
