-- ARP over Ethernet for IPv4 (RFC 826), by the places of a frame's bytes.
use Rattle.std.specs.Prelude.{◌≡◌, ◌≤◌, ℕ, Bool, ◌&&◌, if◌then◌else◌, ◌+◌, nat_le, List, [], ◌∷◌, ◌++◌}
use Rattle.std.specs.Prelude.{length, slice_range, slice_index, replicate, Option, Some, None}
use Rattle.std.specs.Int.{w32, from_be_bytes, to_be_bytes}
use Rattle.std.specs.Str.{bytes_eq}
use Rattle.ip_ranges.specs.Values.{AddressValue}
use Rattle.ip_ranges.specs.declared.family.Family.TheVariants.{V4}
use Rattle.speaker_view.specs.ViewValue.{ViewValue}
use Rattle.l2_elect.specs.Listening.{Listens}

-- EtherType ARP, hardware Ethernet, protocol IPv4, their lengths of 6 and 4, and the operation
abbrev pub arp_header : ℕ → List ℕ
arp_header operation = 0x08 ∷ 0x06 ∷ 0x00 ∷ 0x01 ∷ 0x08 ∷ 0x00 ∷ 6 ∷ 4 ∷ 0x00 ∷ operation ∷ []

-- the IPv4 address that stands at a place
abbrev pub address_at : List ℕ → ℕ → AddressValue
address_at frame place = record {
  family = V4;
  number = from_be_bytes w32 (slice_index frame place ∷ slice_index frame (place + 1) ∷ slice_index frame (place + 2) ∷ slice_index frame (place + 3) ∷ []);
}

-- The reply that mac has the protocol address, to the asker's hardware and protocol addresses: the Ethernet header, and the packet.
abbrev pub arp_reply : List ℕ → List ℕ → List ℕ → List ℕ → List ℕ
arp_reply mac protocol asker asker_protocol =
    asker ++ mac ++ arp_header 2 ++ mac ++ protocol ++ asker ++ asker_protocol

-- The frame is a request for an address, at 38, for which the node listens on the interface, and this is the reply to it; its sender's
-- hardware and protocol addresses are at 22 and 28.
pub record IsArpAnswer (v : ViewValue) (node interface mac frame answer : List ℕ) : Type 0 where
  pub long : 42 ≤ length frame
  pub request : slice_range frame 12 22 ≡ arp_header 1
  pub listens : Listens v node interface (address_at frame 38)
  pub reply : answer ≡ arp_reply mac (slice_range frame 38 42) (slice_range frame 22 28) (slice_range frame 28 32)

-- the reply that nobody asked for, to all stations
unfoldable pub unasked_arp_of : List ℕ → ℕ → List ℕ
unasked_arp_of mac number = arp_reply mac (to_be_bytes w32 number) (replicate 6 0xff) (to_be_bytes w32 number)

-- ---- the same as tests
-- the frame has a request
abbrev pub is_arp_request : List ℕ → Bool
is_arp_request frame = nat_le 42 (length frame) && bytes_eq (slice_range frame 12 22) (arp_header 1)

-- the answer
abbrev pub arp_answer_of : (AddressValue → Bool) → List ℕ → List ℕ → Option (List ℕ)
arp_answer_of listens mac frame =
    if is_arp_request frame && listens (address_at frame 38)
    then Some (arp_reply mac (slice_range frame 38 42) (slice_range frame 22 28) (slice_range frame 28 32))
    else None
