-- The texts of addresses: what each may be written as (RFC 4291, section 2.2), and the one that is
-- printed (RFC 5952, section 4).
use Rattle.std.specs.Prelude.{◌≡◌, ℕ, List, Option, Some, None, Result, Ok, Err, if◌then◌else◌}
use Rattle.std.specs.Int.{w32, w128, to_be_bytes, from_be_bytes}
use Rattle.std.specs.Net.Addr.{octets_of, segments_of}
use Rattle.std.specs.Net.Grammar.{IsDotted, IsColonHex}
use Rattle.std.specs.Net.Reader.{read_ipv4, read_ipv6, whole_value}
use Rattle.std.specs.Net.Text.{ipv4_text, hex_groups_text}
use Rattle.ip_ranges.specs.declared.family.Family.{Family}
use Rattle.ip_ranges.specs.declared.family.Family.TheVariants.{V4, V6}
use Rattle.ip_ranges.specs.declared.fault.RangeFault.{RangeFault}
use Rattle.ip_ranges.specs.declared.fault.RangeFault.TheVariants.{NotAddress, Mapped}
use Rattle.ip_ranges.specs.Values.{AddressValue, only, meets_mapped}

-- the IPv4 address with these four octets, the highest first
abbrev pub v4_of : List ℕ → AddressValue
v4_of octets = record { family = V4; number = from_be_bytes w32 octets }

-- the IPv6 address with these eight groups of 16 bits, the highest first
abbrev pub v6_of : List ℕ → AddressValue
v6_of groups = record { family = V6; number = from_be_bytes w128 (octets_of groups) }

-- Four decimal numbers below 256 without leading zeros, with dots between them; or eight groups of
-- one to four hexadecimal digits with colons between them, where one `::` may stand for one or more
-- groups of zeros and the last two groups may be written as an IPv4 address.
abbrev pub IsSpelled : Family → List ℕ → ℕ → Type 0
IsSpelled V4 text number =
    (octets : List ℕ) × IsDotted text octets × (number ≡ from_be_bytes w32 octets)
IsSpelled V6 text number =
    (groups : List ℕ) × IsColonHex text groups × (number ≡ from_be_bytes w128 (octets_of groups))

-- the text is one of those that write the address
abbrev pub IsAddressText : List ℕ → AddressValue → Type 0
IsAddressText text a = IsSpelled a.family text a.number

-- the IPv4 address that was read, or else the IPv6 address
abbrev pub either_family : Option (List ℕ) → Option (List ℕ) → Option AddressValue
either_family (Some octets) groups = Some (v4_of octets)
either_family None (Some groups) = Some (v6_of groups)
either_family None None = None

-- the address that the text spells, if there is one
unfoldable pub spelled : List ℕ → Option AddressValue
spelled text = either_family (whole_value (read_ipv4 text)) (whole_value (read_ipv6 text))

-- an IPv4-mapped address isn't taken
abbrev pub unmapped : Option AddressValue → Result AddressValue RangeFault
unmapped None = Err NotAddress
unmapped (Some a) = if meets_mapped (only a) then Err Mapped else Ok a

-- what a text reads as
unfoldable pub address_of : List ℕ → Result AddressValue RangeFault
address_of text = unmapped (spelled text)

-- Dotted decimal; or the groups in lower-case hexadecimal without leading zeros, with `::` in place
-- of the longest run of two or more groups of zeros, of two such runs the first (RFC 5952, 4).
abbrev pub text_in : Family → ℕ → List ℕ
text_in V4 number = ipv4_text (to_be_bytes w32 number)
text_in V6 number = hex_groups_text (segments_of (to_be_bytes w128 number))

-- the text that an address is printed as
unfoldable pub canonical_text : AddressValue → List ℕ
canonical_text a = text_in a.family a.number
