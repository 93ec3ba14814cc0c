-- Values that are told by their texts.
use Rattle.std.specs.Prelude.{ℕ, ◌^◌, ◌&&◌, ◌==◌, List, length, slice_index, not, nat_lt, Option, Some, None, Result, codes, if◌then◌else◌}
use Rattle.std.specs.Result.{result_ok}
use Rattle.std.specs.Str.{bytes_eq}
use Rattle.std.specs.List.{list_all}
use Rattle.std.specs.Char.{is_ascii_digit}
use Rattle.std.specs.Str.Parse.{digits_value}
use Rattle.serde_json.specs.Data.{Data}
use Rattle.json_fields.specs.Path.{Path}
use Rattle.json_fields.specs.Reading.{one_of}
use Rattle.ip_ranges.specs.declared.family.Family.{Family}
use Rattle.ip_ranges.specs.declared.family.Family.TheVariants.{V4, V6}
use Rattle.ip_ranges.specs.Values.{AddressValue}
use Rattle.ip_ranges.specs.AddressText.{address_of}

abbrev pub family_named : List ℕ → Option Family
family_named name = if bytes_eq name (codes "IPv4") then Some V4 else
    if bytes_eq name (codes "IPv6") then Some V6 else None

-- a decimal number from 1 to 2 ^ 64 - 1 without leading zeros
abbrev pub version_named : List ℕ → Option ℕ
version_named text = if nat_lt 0 (length text) && not (slice_index text 0 == 48) && list_all is_ascii_digit text && nat_lt (digits_value 10 text) (2 ^ 64)
    then Some (digits_value 10 text) else None

unfoldable pub family_of : Data → Result Family Path
family_of d = one_of family_named d

unfoldable pub version_of : Data → Result ℕ Path
version_of d = one_of version_named d

-- an address by one of its texts (RFC 4291, section 2.2), unless it is IPv4-mapped
unfoldable pub address_in : Data → Result AddressValue Path
address_in d = one_of (λ text. result_ok (address_of text)) d
