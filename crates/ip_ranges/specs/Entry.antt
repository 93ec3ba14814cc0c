-- What the entry of a pool is read as: a relation over the texts of addresses, apart from how it is read.
use Rattle.std.specs.Prelude.{◌≡◌, ◌≢◌, ℕ, ◌<◌, ◌≤◌, ◌⊎◌, List, [], ◌∷◌, ◌++◌, length, slice_index, decimal, Result, Ok, Err}
use Rattle.ip_ranges.specs.declared.family.Family.{Family}
use Rattle.ip_ranges.specs.declared.fault.RangeFault.{RangeFault}
use Rattle.ip_ranges.specs.declared.fault.RangeFault.TheVariants.{NotAddress, BadLength, Backwards, MixedFamilies, Mapped}
use Rattle.ip_ranges.specs.Values.{AddressValue, SpanValue, Holds, IsMapped, width_of, masked, span_of}
use Rattle.ip_ranges.specs.AddressText.{IsAddressText}
use Rattle.ip_ranges.specs.EntryText.{trimmed}

-- `-` and `/`
abbrev pub dash : ℕ
dash = 45

abbrev pub slash : ℕ
slash = 47

-- the byte doesn't stand in the text
abbrev pub HasNo : ℕ → List ℕ → Type 0
HasNo byte text = (k : ℕ) → k < length text → slice_index text k ≢ byte

-- the text before the first such byte, and the text after it
pub record SplitsAt (byte : ℕ) (text before behind : List ℕ) : Type 0 where
  pub joined : text ≡ before ++ byte ∷ behind
  pub first : HasNo byte before

-- A text of an address is read as this address; a text of none and that of an IPv4-mapped one are refused.
abbrev pub Reads : List ℕ → Result AddressValue RangeFault → Type 0
Reads text (Ok a) = IsAddressText text a × (¬ IsMapped a)
Reads text (Err NotAddress) = (a : AddressValue) → ¬ IsAddressText text a
Reads text (Err Mapped) = (a : AddressValue) × IsAddressText text a × IsMapped a
Reads text (Err _) = ⊥

-- A range between these sides: all from the low one to the high one, which is of its family and not below it. The low side's fault comes first.
abbrev pub IsRangeOf : List ℕ → List ℕ → Result SpanValue RangeFault → Type 0
IsRangeOf low high (Ok s) =
    (a b : AddressValue) × Reads low (Ok a) × Reads high (Ok b) × (a.family ≡ b.family) × (a.number ≤ b.number)
    × (s ≡ record { family = a.family; low = a.number; high = b.number })
IsRangeOf low high (Err MixedFamilies) = (a b : AddressValue) × Reads low (Ok a) × Reads high (Ok b) × (a.family ≢ b.family)
IsRangeOf low high (Err Backwards) = (a b : AddressValue) × Reads low (Ok a) × Reads high (Ok b) × (a.family ≡ b.family) × (b.number < a.number)
IsRangeOf low high (Err fault) = Reads low (Err fault) ⊎ ((a : AddressValue) × Reads low (Ok a) × Reads high (Err fault))

-- a decimal number without leading zeros, of at most the family's width
abbrev pub IsLength : Family → List ℕ → ℕ → Type 0
IsLength family text n = (text ≡ decimal n) × (n ≤ width_of family)

-- A prefix of this address and this length: the address without its bits past the length.
abbrev pub IsPrefixOf : List ℕ → List ℕ → Result SpanValue RangeFault → Type 0
IsPrefixOf address length (Ok s) = (a : AddressValue) × (n : ℕ) × Reads address (Ok a) × IsLength a.family length n × (s ≡ span_of (masked a n))
IsPrefixOf address length (Err BadLength) = (a : AddressValue) × Reads address (Ok a) × ((n : ℕ) → ¬ IsLength a.family length n)
IsPrefixOf address length (Err fault) = Reads address (Err fault)

-- the parts round the first slash; without one all is the address, and the length is missing
abbrev pub HasParts : List ℕ → List ℕ → List ℕ → Type 0
HasParts text address length = SplitsAt slash text address length ⊎ (HasNo slash text × (address ≡ text) × (length ≡ []))

-- A range round the first dash, blanks round its sides dropped; and a prefix where there is no dash.
abbrev pub IsWritten : List ℕ → Result SpanValue RangeFault → Type 0
IsWritten text outcome =
    ((low high : List ℕ) × SplitsAt dash text low high × IsRangeOf (trimmed low) (trimmed high) outcome)
    ⊎ (HasNo dash text × ((address length : List ℕ) × HasParts text address length × IsPrefixOf address length outcome))

-- What is written, unless it has an IPv4-mapped address.
abbrev pub IsEntry : List ℕ → Result SpanValue RangeFault → Type 0
IsEntry text (Ok s) = IsWritten text (Ok s) × ((a : AddressValue) → Holds s a → ¬ IsMapped a)
IsEntry text (Err Mapped) = IsWritten text (Err Mapped) ⊎ ((s : SpanValue) × IsWritten text (Ok s) × ((a : AddressValue) × Holds s a × IsMapped a))
IsEntry text (Err fault) = IsWritten text (Err fault)
