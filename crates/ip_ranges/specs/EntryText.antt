-- What the entry of a pool reads as: a range `low-high`, or a prefix `address/length`.
use Rattle.std.specs.Prelude.{ℕ, List, [], ◌∷◌, ◌-◌, Bool, false, ◌||◌, length, take, drop, Option, Some}
use Rattle.std.specs.Prelude.{None, Result, Ok, Err, if◌then◌else◌, ◌==◌, nat_lt, nat_le, not}
use Rattle.std.specs.List.{prefix_len, suffix_len, position_or_len, before_first, after_first}
use Rattle.std.specs.Net.Reader.{read_octet, whole_value}
use Rattle.ip_ranges.specs.declared.fault.RangeFault.{RangeFault}
use Rattle.ip_ranges.specs.declared.fault.RangeFault.TheVariants.{BadLength, Backwards, MixedFamilies, Mapped}
use Rattle.ip_ranges.specs.Values.{AddressValue, SpanValue, width_of, same_family, meets_mapped, masked, span_of}
use Rattle.ip_ranges.specs.AddressText.{address_of}

infixl 10 ◌>>=◌
abbrev ◌>>=◌ : {A B E : Type 0} → Result A E → (A → Result B E) → Result B E
Ok x >>= f = f x
Err e >>= f = Err e

-- `b'-'` and `b'/'`
abbrev pub is_dash : ℕ → Bool
is_dash c = c == 45

abbrev pub is_slash : ℕ → Bool
is_slash c = c == 47

-- whether the byte is a space or a tab
abbrev pub is_blank : ℕ → Bool
is_blank c = (c == 32) || (c == 9)

-- the text without the blanks that it begins with
abbrev pub trim_start : List ℕ → List ℕ
trim_start text = drop (prefix_len is_blank text) text

-- the text without the blanks that it ends with
abbrev pub trim_end : List ℕ → List ℕ
trim_end text = take (length text - suffix_len is_blank text) text

-- the text without the blanks round it
abbrev pub trimmed : List ℕ → List ℕ
trimmed text = trim_end (trim_start text)

-- all addresses from low to high
abbrev pub span_between : AddressValue → AddressValue → Result SpanValue RangeFault
span_between low high =
    if not (same_family low.family high.family) then Err MixedFamilies
    else (if nat_lt high.number low.number then Err Backwards
    else Ok (record { family = low.family; low = low.number; high = high.number }))

-- both sides of a range, blanks round them dropped
abbrev pub range_of : List ℕ → List ℕ → Result SpanValue RangeFault
range_of low_text high_text = do
  low ← address_of (trimmed low_text)
  high ← address_of (trimmed high_text)
  span_between low high

-- whether the text begins with a plus, or with a zero before others
abbrev pub is_padded : List ℕ → Bool
is_padded [] = false
is_padded (c ∷ []) = c == 43
is_padded (c ∷ d ∷ rest) = (c == 43) || (c == 48)

-- a decimal number without leading zeros, at most the width
abbrev pub length_within : ℕ → Option ℕ → Result ℕ RangeFault
length_within width None = Err BadLength
length_within width (Some n) = if nat_le n width then Ok n else Err BadLength

-- an address and the length of the prefix after its slash
abbrev pub prefix_of : List ℕ → List ℕ → Result SpanValue RangeFault
prefix_of address_text length_text = do
  address ← address_of address_text
  length ← length_within (width_of address.family) (whole_value (read_octet length_text))
  Ok (span_of (masked address length))

-- no span that has an IPv4-mapped address is taken
abbrev pub span_unmapped : SpanValue → Result SpanValue RangeFault
span_unmapped s = if meets_mapped s then Err Mapped else Ok s

-- a text with a dash is a range, and any other is a prefix, whose length is missing where it has no
-- slash
abbrev pub written_span : List ℕ → Result SpanValue RangeFault
written_span text =
    if nat_lt (position_or_len is_dash text) (length text)
    then range_of (before_first is_dash text) (after_first is_dash text)
    else prefix_of (before_first is_slash text) (after_first is_slash text)

-- what an entry reads as
unfoldable pub entry_of : List ℕ → Result SpanValue RangeFault
entry_of text = written_span text >>= span_unmapped
