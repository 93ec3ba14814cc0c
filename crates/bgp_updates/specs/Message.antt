-- UPDATE messages (RFC 4271, 4.3) for IPv4, with four-octet AS numbers, and for IPv6 (RFC 4760).
use Rattle.std.specs.Prelude.{map, ℕ, suc, ◌≤◌, ◌<◌, ◌^◌, ◌+◌, ◌-◌, ◌/◌, if◌then◌else◌, ◌==◌, nat_le, List}
use Rattle.std.specs.Prelude.{[], ◌∷◌, ◌++◌, length, take, replicate, Option, Some, None, unwrap_or}
use Rattle.std.specs.List.{flat_map}
use Rattle.std.specs.Int.{w16, w32, w128, to_be_bytes}
use Rattle.ip_ranges.specs.declared.family.Family.{Family}
use Rattle.ip_ranges.specs.declared.family.Family.TheVariants.{V4, V6}
use Rattle.ip_ranges.specs.Values.{PrefixValue, width_of}
use Rattle.large_numbers.specs.declared.numbers.LargeCommunity.{LargeCommunity}
use Rattle.bgp_updates.specs.declared.part.Part.{Part}
use Rattle.bgp_updates.specs.declared.part.Part.TheVariants.{Withdrawn, Unreached, Announced, Reached}
use Rattle.bgp_updates.specs.declared.route.Terms.{Terms}
use Rattle.bgp_updates.specs.declared.route.Peering.{Peering}

-- a prefix's numbers
abbrev pub Fits : PrefixValue → Type 0
Fits p = (p.length ≤ width_of p.family) × (p.number < 2 ^ width_of p.family)

-- how many octets hold a prefix of a length
abbrev pub octets : PrefixValue → ℕ
octets p = (p.length + 7) / 8

-- the octets of an address
abbrev pub address_bytes : Family → ℕ → List ℕ
address_bytes V4 number = to_be_bytes w32 number
address_bytes V6 number = to_be_bytes w128 number

-- a prefix is its length and as few octets as hold it
abbrev pub prefix_bytes : PrefixValue → List ℕ
prefix_bytes p = p.length ∷ take (octets p) (address_bytes p.family p.number)

-- one after the other
abbrev pub prefixes_bytes : List PrefixValue → List ℕ
prefixes_bytes prefixes = flat_map prefix_bytes prefixes

-- the marker, the length of the whole, the type, and the three parts, of which the last has no length
abbrev pub message_of : List ℕ → List ℕ → List ℕ → List ℕ
message_of withdrawn attributes announced =
    replicate 16 0xff ++ to_be_bytes w16 (23 + length withdrawn + length attributes + length announced) ++ (2 ∷ []) ++ to_be_bytes w16 (length withdrawn)
    ++ withdrawn ++ to_be_bytes w16 (length attributes) ++ attributes ++ announced

-- An attribute: its flags, its type, and its value after a one-octet length; above 255 octets the flag of the extended length (0x10)
-- and two octets.
abbrev pub attribute : ℕ → ℕ → List ℕ → List ℕ
attribute flags kind value =
    if nat_le (length value) 255 then (flags ∷ kind ∷ length value ∷ []) ++ value
    else ((flags + 0x10) ∷ kind ∷ []) ++ to_be_bytes w16 (length value) ++ value

-- the same where there is a value
abbrev pub optional_attribute : ℕ → ℕ → List ℕ → List ℕ
optional_attribute flags kind value = if length value == 0 then [] else attribute flags kind value

-- MP_UNREACH_NLRI and MP_REACH_NLRI, optional and not transitive: the address family IPv6, unicast; the next hop after its length, and a
-- reserved octet; the prefixes
abbrev pub unreach_attribute : List ℕ → List ℕ
unreach_attribute prefixes = attribute 0x80 15 ((0 ∷ 2 ∷ 1 ∷ []) ++ prefixes)

abbrev pub reach_attribute : ℕ → List ℕ → List ℕ
reach_attribute hop prefixes = attribute 0x80 14 ((0 ∷ 2 ∷ 1 ∷ 16 ∷ []) ++ to_be_bytes w128 hop ++ (0 ∷ []) ++ prefixes)

-- the message that tells of the prefixes so
unfoldable pub part_bytes : Part → List ℕ → List ℕ
part_bytes Withdrawn prefixes = message_of prefixes [] []
part_bytes Unreached prefixes = message_of [] (unreach_attribute prefixes) []
part_bytes (Announced attributes) prefixes = message_of [] attributes prefixes
part_bytes (Reached front hop back) prefixes = message_of [] (front ++ reach_attribute hop prefixes ++ back) []

-- the same of prefixes
abbrev pub part_message : Part → List PrefixValue → List ℕ
part_message part prefixes = part_bytes part (prefixes_bytes prefixes)

-- how many octets at most a message has beside the prefixes' own
abbrev pub part_size : Part → ℕ
part_size Withdrawn = 23
part_size Unreached = 30
part_size (Announced attributes) = 23 + length attributes
part_size (Reached front hop back) = 48 + length front + length back

-- how many octets prefixes may have; in MP_REACH_NLRI they are more than 255 with the rest of it, where a message is full
abbrev pub room_of : Part → ℕ
room_of part = 4096 - part_size part

-- the prefix stands first in the first part
abbrev pub with_first : PrefixValue → List (List PrefixValue) → List (List PrefixValue)
with_first p [] = (p ∷ []) ∷ []
with_first p (first ∷ more) = (p ∷ first) ∷ more

-- As many prefixes a part as fit in the room, in octets: `left` is what the part under way still has.
abbrev pub packed : ℕ → ℕ → List PrefixValue → List (List PrefixValue)
packed room left [] = [] ∷ []
packed room left (p ∷ prefixes) =
    if nat_le (1 + octets p) left
    then with_first p (packed room (left - (1 + octets p)) prefixes)
    else [] ∷ with_first p (packed room (room - (1 + octets p)) prefixes)

-- the prefixes, as many a message as fit in the room; no message where there is no prefix
unfoldable pub in_messages : ℕ → List PrefixValue → List (List PrefixValue)
in_messages room [] = []
in_messages room (p ∷ prefixes) = packed room room (p ∷ prefixes)

-- how many from the front fit in what is left
abbrev pub fitting : ℕ → List PrefixValue → ℕ
fitting left [] = 0
fitting left (p ∷ prefixes) = if nat_le (1 + octets p) left then suc (fitting (left - (1 + octets p)) prefixes) else 0

-- the messages that tell of the prefixes so
abbrev pub part_messages : Part → List PrefixValue → List (List ℕ)
part_messages part prefixes = map (part_message part) (in_messages (room_of part) prefixes)

-- ---- path attributes
-- four octets a community
abbrev pub communities_bytes : List ℕ → List ℕ
communities_bytes numbers = flat_map (to_be_bytes w32) numbers

-- COMMUNITIES (RFC 1997), optional and transitive, where there are some
abbrev pub communities_attribute : List ℕ → List ℕ
communities_attribute numbers = optional_attribute 0xc0 8 (communities_bytes numbers)

-- twelve octets a large community
abbrev pub large_octets : LargeCommunity → List ℕ
large_octets c = to_be_bytes w32 c.global ++ to_be_bytes w32 c.first ++ to_be_bytes w32 c.second

abbrev pub larges_bytes : List LargeCommunity → List ℕ
larges_bytes numbers = flat_map large_octets numbers

-- LARGE_COMMUNITY (RFC 8092), optional and transitive, where there are some
abbrev pub large_attribute : List LargeCommunity → List ℕ
large_attribute numbers = optional_attribute 0xc0 32 (larges_bytes numbers)

-- AS_PATH (RFC 4271, 5.1.2; RFC 6793): empty inside the AS, else one sequence of the own number
abbrev pub path_attribute : Option ℕ → List ℕ
path_attribute None = 0x40 ∷ 2 ∷ 0 ∷ []
path_attribute (Some own) = 0x40 ∷ 2 ∷ 6 ∷ 2 ∷ 1 ∷ to_be_bytes w32 own

-- NEXT_HOP (RFC 4271, 5.1.3), of IPv4 routes alone
abbrev pub hop_attribute : Family → ℕ → List ℕ
hop_attribute V4 hop = 0x40 ∷ 3 ∷ 4 ∷ to_be_bytes w32 hop
hop_attribute V6 hop = []

-- LOCAL_PREF (RFC 4271, 5.1.5): inside the AS alone, 0 by default
abbrev pub preference_attribute : Option ℕ → Option ℕ → List ℕ
preference_attribute None preference = 0x40 ∷ 5 ∷ 4 ∷ to_be_bytes w32 (unwrap_or preference 0)
preference_attribute (Some own) preference = []

-- ORIGIN with INCOMPLETE, AS_PATH, NEXT_HOP, LOCAL_PREF and COMMUNITIES, ascending by type
abbrev pub front_of : Family → Peering → Terms → List ℕ
front_of family peering terms =
    (0x40 ∷ 1 ∷ 1 ∷ 2 ∷ []) ++ path_attribute peering.own ++ hop_attribute family peering.next_hop
    ++ preference_attribute peering.own terms.preference ++ communities_attribute terms.communities

-- how the prefixes of a family are withdrawn
abbrev pub withdrawn_part : Family → Part
withdrawn_part V4 = Withdrawn
withdrawn_part V6 = Unreached

-- how they are announced with terms
abbrev pub announced_part : Family → Peering → Terms → Part
announced_part V4 peering terms = Announced (front_of V4 peering terms ++ large_attribute terms.large)
announced_part V6 peering terms = Reached (front_of V6 peering terms) peering.next_hop_v6 (large_attribute terms.large)

-- a message that withdraws the prefixes
abbrev pub withdraw_message : Family → List PrefixValue → List ℕ
withdraw_message family prefixes = part_message (withdrawn_part family) prefixes

-- a message that announces the prefixes, all with these terms
abbrev pub announce_message : Family → Peering → Terms → List PrefixValue → List ℕ
announce_message family peering terms prefixes = part_message (announced_part family peering terms) prefixes
