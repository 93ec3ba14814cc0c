-- Neighbor advertisements (RFC 4861, section 4.4), as they are sent.
use Rattle.std.specs.Prelude.{ℕ, if◌then◌else◌, ◌-◌, List, [], ◌∷◌, ◌++◌, slice_range, unwrap_or}
use Rattle.std.specs.Int.{w16, w128, to_be_bytes}
use Rattle.neigh_frames.specs.declared.options.Sender.{Sender}
use Rattle.neigh_frames.specs.Checksum.{ones_sum, with_pseudo_header}
use Rattle.neigh_frames.specs.Solicitation.{source_of, target_of, is_unspecified}

-- the all-nodes address ff02::1
abbrev pub all_nodes : List ℕ
all_nodes = 0xff ∷ 0x02 ∷ 0 ∷ 0 ∷ 0 ∷ 0 ∷ 0 ∷ 0 ∷ 0 ∷ 0 ∷ 0 ∷ 0 ∷ 0 ∷ 0 ∷ 0 ∷ 1 ∷ []

-- the EtherType, and the IPv6 header before its addresses: version 6, 32 bytes, next header ICMPv6, hop limit 255
abbrev pub header : List ℕ
header = 0x86 ∷ 0xdd ∷ 0x60 ∷ 0 ∷ 0 ∷ 0 ∷ 0 ∷ 32 ∷ 58 ∷ 255 ∷ []

-- the message: type 136 and code 0, the checksum, the flags, the target, and mac as its Target Link-Layer Address (section 4.6.1)
abbrev pub advertisement : ℕ → List ℕ → List ℕ → ℕ → List ℕ
advertisement flags target mac checksum =
    (136 ∷ 0 ∷ []) ++ to_be_bytes w16 checksum ++ (flags ∷ 0 ∷ 0 ∷ 0 ∷ []) ++ target ++ (2 ∷ 1 ∷ []) ++ mac

-- the checksum from the target to the destination: over the message with zeros in its place
abbrev pub checksum_of : ℕ → List ℕ → List ℕ → List ℕ → ℕ
checksum_of flags target destination mac =
    0xffff - ones_sum (with_pseudo_header (target ++ destination) (advertisement flags target mac 0))

-- the frame from mac to the hardware address, with the packet from the target to the destination
abbrev pub ndp_reply : List ℕ → List ℕ → List ℕ → List ℕ → ℕ → List ℕ
ndp_reply mac hardware target destination flags =
    hardware ++ mac ++ header ++ target ++ destination ++ advertisement flags target mac (checksum_of flags target destination mac)

-- to all nodes, at 33:33:00:00:00:01 (RFC 2464, section 7)
abbrev pub to_all_nodes : List ℕ → List ℕ → ℕ → List ℕ
to_all_nodes mac target flags = ndp_reply mac (0x33 ∷ 0x33 ∷ 0 ∷ 0 ∷ 0 ∷ 1 ∷ []) target all_nodes flags

-- The answer to a solicitation (section 7.2.4): to all nodes where it has no source address; else solicited, to the source, at the
-- hardware address that the sender states, or else at the frame's Ethernet source.
abbrev pub reply_to : List ℕ → List ℕ → Sender → List ℕ
reply_to mac frame sender =
    if is_unspecified (source_of frame)
    then to_all_nodes mac (target_of frame) 0
    else ndp_reply mac (unwrap_or sender.hardware (slice_range frame 6 12)) (target_of frame) (source_of frame) 0x40

-- the advertisement that nobody asked for, to all nodes, which overrides (section 7.2.6)
unfoldable pub unasked_ndp_of : List ℕ → ℕ → List ℕ
unasked_ndp_of mac number = to_all_nodes mac (to_be_bytes w128 number) 0x20
