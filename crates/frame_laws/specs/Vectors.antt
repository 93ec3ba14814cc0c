-- Frames that were written out by hand from RFC 826 and RFC 4861, in hexadecimal digits.
use Rattle.std.specs.Prelude.{◌≡◌, ℕ, ◌==◌, Bool, List, [], ◌∷◌, ◌++◌, codes, Option, Some, None, Result, Ok, Err}
use Rattle.std.specs.Option.{option_map}
use Rattle.hex.specs.Hex.{decode_of, encode_lower}
use Rattle.hex.specs.declared.error.FromHexError.{FromHexError}
use Rattle.ip_ranges.specs.Values.{AddressValue}
use Rattle.neigh_frames.specs.Advertisement.{unasked_ndp_of}
use Rattle.neigh_frames.specs.Arp.{arp_answer_of, unasked_arp_of}
use Rattle.neigh_frames.specs.Ndp.{ndp_answer_of}

-- 02:00:00:00:00:0a
abbrev pub mac : List ℕ
mac = 0x02 ∷ 0 ∷ 0 ∷ 0 ∷ 0 ∷ 0x0a ∷ []

-- 192.0.2.10 and 2001:db8::10
abbrev pub ipv4 : ℕ
ipv4 = 0xc000020a

abbrev pub ipv6 : ℕ
ipv6 = 0x20010db8000000000000000000000010

-- one listens for the address of this number alone
abbrev pub listens_for : ℕ → AddressValue → Bool
listens_for number address = address.number == number

abbrev pub decoded : Result (List ℕ) FromHexError → List ℕ
decoded (Ok octets) = octets
decoded (Err fault) = []

-- the octets that the digits are
abbrev pub octets : List ℕ → List ℕ
octets digits = decoded (decode_of digits)

-- what is answered to a frame, in digits
abbrev pub arp_digits : ℕ → List ℕ → Option (List ℕ)
arp_digits number digits = option_map encode_lower (arp_answer_of (listens_for number) mac (octets digits))

abbrev pub ndp_digits : ℕ → List ℕ → Option (List ℕ)
ndp_digits number digits = option_map encode_lower (ndp_answer_of (listens_for number) mac (octets digits))

-- the request of 192.0.2.99, at 02:00:00:00:00:01, for 192.0.2.10
abbrev pub request : List ℕ
request = codes "ffffffffffff02000000000108060001080006040001020000000001c0000263000000000000c000020a"

-- It is answered by who listens for that address, and by nobody else.
abbrev pub AnsweredArp : Type 0
AnsweredArp =
    (arp_digits ipv4 request ≡ Some (codes "02000000000102000000000a0806000108000604000202000000000ac000020a020000000001c0000263"))
    × (arp_digits 0xc0000263 request ≡ None)

abbrev pub ToldUnasked : Type 0
ToldUnasked = encode_lower (unasked_arp_of mac ipv4) ≡ codes "ffffffffffff02000000000a0806000108000604000202000000000ac000020affffffffffffc000020a"

-- the solicitation from :: for 2001:db8::10, and that with another checksum
abbrev pub from_unspecified : List ℕ
from_unspecified =
    codes "3333ff00001002000000000186dd6000000000183aff00000000000000000000000000000000ff0200000000000000000001ff000010"
    ++ codes "87004ccf0000000020010db8000000000000000000000010"

abbrev pub with_wrong_checksum : List ℕ
with_wrong_checksum =
    codes "3333ff00001002000000000186dd6000000000183aff00000000000000000000000000000000ff0200000000000000000001ff000010"
    ++ codes "87004cd00000000020010db8000000000000000000000010"

-- the answer to the first, to all nodes, not solicited
abbrev pub to_all : List ℕ
to_all =
    codes "33330000000102000000000a86dd6000000000203aff20010db8000000000000000000000010ff020000000000000000000000000001"
    ++ codes "880019040000000020010db8000000000000000000000010020102000000000a"

abbrev pub AnsweredUnspecified : Type 0
AnsweredUnspecified =
    (ndp_digits ipv6 from_unspecified ≡ Some to_all) × (ndp_digits 0x20010db8000000000000000000000011 from_unspecified ≡ None)
    × (ndp_digits ipv6 with_wrong_checksum ≡ None)

-- the solicitation from 2001:db8::99, which states its link-layer address, and the answer to it
abbrev pub from_host : List ℕ
from_host =
    codes "3333ff00001002000000000186dd6000000000203aff20010db8000000000000000000000099ff0200000000000000000001ff000010"
    ++ codes "87001b730000000020010db80000000000000000000000100101020000000001"

abbrev pub to_host : List ℕ
to_host =
    codes "02000000000102000000000a86dd6000000000203aff20010db800000000000000000000001020010db8000000000000000000000099"
    ++ codes "8800a9b54000000020010db8000000000000000000000010020102000000000a"

abbrev pub AnsweredSolicitation : Type 0
AnsweredSolicitation = ndp_digits ipv6 from_host ≡ Some to_host

-- what is sent unsolicited overrides
abbrev pub overriding : List ℕ
overriding =
    codes "33330000000102000000000a86dd6000000000203aff20010db8000000000000000000000010ff020000000000000000000000000001"
    ++ codes "8800f9032000000020010db8000000000000000000000010020102000000000a"

abbrev pub AdvertisedUnasked : Type 0
AdvertisedUnasked = encode_lower (unasked_ndp_of mac ipv6) ≡ overriding
