-- Prefixes by the first bits of addresses.
use Rattle.std.specs.Prelude.{◌≡◌, ◌↔◌, ℕ, ◌-◌, ◌/◌, ◌^◌, ◌<◌, ◌≤◌}
use Rattle.ip_ranges.specs.declared.family.Family.{Family}
use Rattle.ip_ranges.specs.declared.family.Family.TheVariants.{V4, V6}
use Rattle.ip_ranges.specs.Values.{AddressValue, PrefixValue, Holds, IsPrefix, masked, span_of}

-- how many bits an address of the family has (RFC 791, section 2.3; RFC 4291, section 2)
abbrev pub bits_of : Family → ℕ
bits_of V4 = 32
bits_of V6 = 128

-- the first so many bits of a number of the family
abbrev pub first_bits : Family → ℕ → ℕ → ℕ
first_bits family length number = number / 2 ^ (bits_of family - length)

-- The address is of the prefix's family, and begins with its bits.
pub record Begins (p : PrefixValue) (a : AddressValue) : Type 0 where
  pub family : p.family ≡ a.family
  pub bits : first_bits p.family p.length a.number ≡ first_bits p.family p.length p.number

-- a prefix holds just the addresses that begin with its bits
abbrev pub PrefixesHoldWhatBeginsSo : Type 0
PrefixesHoldWhatBeginsSo = (p : PrefixValue) (a : AddressValue) → IsPrefix p → Holds (span_of p) a ↔ Begins p a

-- It is a prefix of this length, and holds the address.
pub record IsPrefixOf (a : AddressValue) (length : ℕ) (p : PrefixValue) : Type 0 where
  pub length_is : p.length ≡ length
  pub prefix : IsPrefix p
  pub holds : Holds (span_of p) a

-- an address masked to a length is such a one, and no other is
abbrev pub MaskedIsTheOnePrefix : Type 0
MaskedIsTheOnePrefix = (a : AddressValue) (length : ℕ) → a.number < 2 ^ bits_of a.family → length ≤ bits_of a.family
    → IsPrefixOf a length (masked a length) × ((p : PrefixValue) → IsPrefixOf a length p → p ≡ masked a length)
