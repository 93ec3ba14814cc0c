-- What a receiver asks of a neighbor advertisement (RFC 4861, section 7.1.2), by the places of a frame's octets: the EtherType is at 12,
-- the IPv6 header (RFC 8200, section 3) at 14, the ICMPv6 message (RFC 4861, section 4.4) at 54, and its options at 78.
use Rattle.std.specs.Prelude.{◌≡◌, ◌≢◌, ℕ, ◌+◌, ◌*◌, ◌/◌, ◌%◌, ◌≤◌, List, length, slice_index}
use Rattle.std.specs.Int.{w128, to_be_bytes}
use Rattle.speaker_view.specs.ViewValue.{ViewValue}
use Rattle.neigh_frames.specs.Advertisement.{unasked_ndp_of}
use Rattle.neigh_frames.specs.Ndp.{IsNdpAnswer}
use Rattle.frame_laws.specs.Sums.{AreOctets, IsMultiple, message_length, summed}

pub record IsValidAdvertisement (frame : List ℕ) : Type 0 where
  pub ether_type : slice_index frame 12 * 0x100 + slice_index frame 13 ≡ 0x86dd
  pub version : slice_index frame 14 / 16 ≡ 6
  pub whole : 54 + message_length frame ≡ length frame
  pub next_header : slice_index frame 20 ≡ 58
  pub hop_limit : slice_index frame 21 ≡ 255
  pub kind : slice_index frame 54 ≡ 136
  pub code : slice_index frame 55 ≡ 0
  pub checksum : IsMultiple (summed frame)
  pub long : 24 ≤ message_length frame
  pub unicast : slice_index frame 62 ≢ 0xff
  -- to a multicast destination the Solicited flag is clear
  pub unsolicited : slice_index frame 38 ≡ 0xff → slice_index frame 58 / 0x40 % 2 ≡ 0
  -- one option, the Target Link-Layer Address (section 4.6.1), of one unit of eight octets, up to the end
  pub option : slice_index frame 78 ≡ 2
  pub unit : slice_index frame 79 ≡ 1
  pub last : 78 + 8 * slice_index frame 79 ≡ length frame

-- an Ethernet address
abbrev pub IsHardware : List ℕ → Type 0
IsHardware mac = (length mac ≡ 6) × AreOctets mac

-- so are all answers to solicitations from a source, at 22, that is no multicast address
abbrev pub AnswersAreValid : Type 0
AnswersAreValid = (v : ViewValue) (node interface mac frame answer : List ℕ) → IsHardware mac → AreOctets frame → slice_index frame 22 ≢ 0xff
    → IsNdpAnswer v node interface mac frame answer → IsValidAdvertisement answer

-- so is what is sent unsolicited for an address that is no multicast address
abbrev pub UnsolicitedAreValid : Type 0
UnsolicitedAreValid = (mac : List ℕ) (number : ℕ) → IsHardware mac → slice_index (to_be_bytes w128 number) 0 ≢ 0xff
    → IsValidAdvertisement (unasked_ndp_of mac number)
