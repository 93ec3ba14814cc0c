-- A neighbor solicitation (RFC 4861, section 4.3) by the places of a frame's bytes: the Ethernet header is at 0, the IPv6 header
-- (RFC 8200, section 3) at 14, the ICMPv6 message at 54.
use Rattle.std.specs.Prelude.{◌≡◌, ◌≢◌, ◌≤◌, ℕ, Bool, ◌&&◌, ◌||◌, ◌==◌, not, ◌+◌, ◌*◌, ◌/◌, nat_le, List}
use Rattle.std.specs.Prelude.{[], ◌∷◌, ◌++◌, length, slice_range, slice_index, replicate, All}
use Rattle.std.specs.Str.{bytes_eq}
use Rattle.neigh_frames.specs.declared.options.Sender.{Sender}
use Rattle.neigh_frames.specs.Checksum.{ones_sum, with_pseudo_header}
use Rattle.neigh_frames.specs.Options.{NdpOption}

-- the length of what is behind the IPv6 header
abbrev pub payload_length : List ℕ → ℕ
payload_length frame = slice_index frame 18 * 256 + slice_index frame 19

-- the ICMPv6 message
abbrev pub message_of : List ℕ → List ℕ
message_of frame = slice_range frame 54 (54 + payload_length frame)

-- the IPv6 source address
abbrev pub source_of : List ℕ → List ℕ
source_of frame = slice_range frame 22 38

-- the IPv6 destination address
abbrev pub destination_of : List ℕ → List ℕ
destination_of frame = slice_range frame 38 54

-- the address that is asked for
abbrev pub target_of : List ℕ → List ℕ
target_of frame = slice_range frame 62 78

-- the bytes of the options
abbrev pub options_in : List ℕ → List ℕ
options_in frame = slice_range frame 78 (54 + payload_length frame)

-- The ones' complement sum over the pseudo header and the message, its checksum with it, is ffff (RFC 1071, section 1).
abbrev pub HasRightChecksum : List ℕ → Type 0
HasRightChecksum frame = ones_sum (with_pseudo_header (slice_range frame 22 54) (message_of frame)) ≡ 0xffff

-- the unspecified address ::
abbrev pub unspecified : List ℕ
unspecified = replicate 16 0

-- the first 13 bytes of a solicited-node address (RFC 4291, section 2.7.1)
abbrev pub solicited_node_front : List ℕ
solicited_node_front = 0xff ∷ 0x02 ∷ 0 ∷ 0 ∷ 0 ∷ 0 ∷ 0 ∷ 0 ∷ 0 ∷ 0 ∷ 0 ∷ 1 ∷ 0xff ∷ []

-- the solicited-node address of an address: ff02::1:ff00:0 with its last three bytes
abbrev pub solicited_node_of : List ℕ → List ℕ
solicited_node_of address = solicited_node_front ++ slice_range address 13 16

-- The frame has an IPv6 packet with a whole ICMPv6 message of at least 24 bytes, whose hop limit is 255.
pub record HasMessage (frame : List ℕ) : Type 0 where
  pub long : 78 ≤ length frame
  pub ether_type : slice_range frame 12 14 ≡ 0x86 ∷ 0xdd ∷ []
  pub version : slice_index frame 14 / 16 ≡ 6
  pub icmp : slice_range frame 20 22 ≡ 58 ∷ 255 ∷ []
  pub message : 24 ≤ payload_length frame
  pub whole : 54 + payload_length frame ≤ length frame

-- The message is of type 135 and code 0, its target is no multicast address, and its checksum is right.
pub record IsSolicitation (frame : List ℕ) : Type 0 where
  pub kind : slice_range frame 54 56 ≡ 135 ∷ 0 ∷ []
  pub unicast : slice_index frame 62 ≢ 0xff
  pub checksum : HasRightChecksum frame

-- The solicitation, whose sender has no address, is for the solicited-node address of its target, and states no link-layer address.
pub record IsUnaddressed (frame : List ℕ) (options : List NdpOption) : Type 0 where
  pub to_solicited_node : destination_of frame ≡ solicited_node_of (target_of frame)
  pub unstated : All (λ option. option.kind ≢ 1) options

-- ---- the same as tests
abbrev pub has_message : List ℕ → Bool
has_message frame =
    nat_le 78 (length frame)
    && bytes_eq (slice_range frame 12 14) (0x86 ∷ 0xdd ∷ [])
    && (slice_index frame 14 / 16 == 6)
    && bytes_eq (slice_range frame 20 22) (58 ∷ 255 ∷ [])
    && nat_le 24 (payload_length frame)
    && nat_le (54 + payload_length frame) (length frame)

-- the sum over all is ffff
abbrev pub has_right_checksum : List ℕ → Bool
has_right_checksum frame = ones_sum (with_pseudo_header (slice_range frame 22 54) (message_of frame)) == 0xffff

abbrev pub is_solicitation : List ℕ → Bool
is_solicitation frame = bytes_eq (slice_range frame 54 56) (135 ∷ 0 ∷ []) && not (slice_index frame 62 == 0xff) && has_right_checksum frame

abbrev pub is_unspecified : List ℕ → Bool
is_unspecified address = bytes_eq address unspecified

abbrev pub is_to_solicited_node : List ℕ → Bool
is_to_solicited_node frame = bytes_eq (destination_of frame) (solicited_node_of (target_of frame))

-- it has a source address, or is as one without must be
abbrev pub has_valid_source : List ℕ → Sender → Bool
has_valid_source frame sender = not (is_unspecified (source_of frame)) || (is_to_solicited_node frame && not sender.stated)
