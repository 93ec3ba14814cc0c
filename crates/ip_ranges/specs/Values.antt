-- Addresses, ranges and prefixes, as contracts see them.
use Rattle.std.specs.Prelude.{◌≡◌, ℕ, ◌+◌, ◌-◌, ◌*◌, ◌/◌, ◌%◌, ◌^◌, ◌<◌, ◌≤◌, Bool, true, false, ◌&&◌, ◌||◌, ◌==◌, nat_le, List}
use Rattle.std.specs.List.{list_any}
use Rattle.ip_ranges.specs.declared.family.Family.{Family}
use Rattle.ip_ranges.specs.declared.family.Family.TheVariants.{V4, V6}

-- how many bits an address of the family has
abbrev pub width_of : Family → ℕ
width_of V4 = 32
width_of V6 = 128

-- whether the families are one
abbrev pub same_family : Family → Family → Bool
same_family V4 V4 = true
same_family V4 V6 = false
same_family V6 V4 = false
same_family V6 V6 = true

-- an address is a number of its family
pub record AddressValue : Type 0 where
  pub family : Family
  pub number : ℕ

-- whether the addresses are one
abbrev pub same_address : AddressValue → AddressValue → Bool
same_address a b = same_family a.family b.family && (a.number == b.number)

-- the address is one of the addresses
abbrev pub has_address : List AddressValue → AddressValue → Bool
has_address addresses a = list_any (same_address a) addresses

-- all the numbers from the low one to the high one, both of them included
pub record SpanValue : Type 0 where
  pub family : Family
  pub low : ℕ
  pub high : ℕ

-- all the numbers that have the first so many bits of this one
pub record PrefixValue : Type 0 where
  pub family : Family
  pub number : ℕ
  pub length : ℕ

-- the number fits the family's width
abbrev pub IsOfFamily : AddressValue → Type 0
IsOfFamily a = a.number < 2 ^ width_of a.family

-- the low number isn't above the high one, and both fit the family's width
abbrev pub IsRange : SpanValue → Type 0
IsRange s = (s.low ≤ s.high) × (s.high < 2 ^ width_of s.family)

-- the span has the address
abbrev pub Holds : SpanValue → AddressValue → Type 0
Holds s a = (s.family ≡ a.family) × (s.low ≤ a.number) × (a.number ≤ s.high)

-- the same as a test
abbrev pub holds : SpanValue → AddressValue → Bool
holds s a = same_family s.family a.family && nat_le s.low a.number && nat_le a.number s.high

-- whether some address is in both spans
abbrev pub overlaps : SpanValue → SpanValue → Bool
overlaps s t = same_family s.family t.family && (nat_le s.low t.high && nat_le t.low s.high)

-- an IPv4 address whose last octet is 0 or 255
abbrev pub is_buggy : AddressValue → Bool
is_buggy a = same_family a.family V4 && ((a.number % 256 == 0) || (a.number % 256 == 255))

-- the span of one address
abbrev pub only : AddressValue → SpanValue
only a = record { family = a.family; low = a.number; high = a.number }

-- the first and the last address of ::ffff:0:0/96, the IPv4-mapped ones (RFC 4291, section 2.5.5.2)
abbrev pub first_mapped : ℕ
first_mapped = 0xffff_0000_0000

abbrev pub last_mapped : ℕ
last_mapped = 0xffff_ffff_ffff

-- the address is IPv4-mapped
abbrev pub IsMapped : AddressValue → Type 0
IsMapped a = (a.family ≡ V6) × (first_mapped ≤ a.number) × (a.number ≤ last_mapped)

-- whether the span has an IPv4-mapped address
abbrev pub meets_mapped : SpanValue → Bool
meets_mapped s = same_family s.family V6 && (nat_le s.low last_mapped && nat_le first_mapped s.high)

-- how many addresses a prefix of this length has
abbrev pub size_at : Family → ℕ → ℕ
size_at family length = 2 ^ (width_of family - length)

-- the length fits the family, and the bits past it are 0
abbrev pub IsPrefix : PrefixValue → Type 0
IsPrefix p =
    (p.length ≤ width_of p.family) × (p.number < 2 ^ width_of p.family)
    × (p.number % size_at p.family p.length ≡ 0)

-- the address without its bits past the length
abbrev pub masked : AddressValue → ℕ → PrefixValue
masked a length =
    let size = size_at a.family length in
    record { family = a.family; number = a.number / size * size; length = length }

-- the addresses of a prefix
abbrev pub span_of : PrefixValue → SpanValue
span_of p =
    let size = size_at p.family p.length in
    record { family = p.family; low = p.number; high = p.number + (size - 1) }
