-- Messages between tables, read by what RFC 4271, RFC 1997, RFC 4760 and RFC 8092 say of path attributes.
use Rattle.std.specs.Prelude.{◌≡◌, ℕ, ◌+◌, if◌then◌else◌, nat_le, List, [], ◌∷◌, ◌++◌, length, map, All, Option, Some, None, unwrap_or}
use Rattle.std.specs.Int.{w32, w128, to_be_bytes}
use Rattle.std.specs.List.{AllByRecursion, flat_map}
use Rattle.ip_ranges.specs.declared.family.Family.{Family}
use Rattle.ip_ranges.specs.declared.family.Family.TheVariants.{V4, V6}
use Rattle.ip_ranges.specs.Values.{PrefixValue}
use Rattle.large_numbers.specs.declared.numbers.LargeCommunity.{LargeCommunity}
use Rattle.bgp_updates.specs.declared.route.Terms.{Terms}
use Rattle.bgp_updates.specs.declared.route.Peering.{Peering}
use Rattle.bgp_updates.specs.Between.{messages_between, update_octets}
use Rattle.bgp_updates.specs.Laws.{updates_for}
use Rattle.bgp_updates.specs.Message.{prefixes_bytes}
use Rattle.bgp_updates.specs.Received.{Update}
use Rattle.bgp_updates.specs.Tables.{HasFew, IsTable, of_family}
use Rattle.update_laws.specs.Attributes.{Attribute, announced_octets, attribute_octets, attributes_in, withdrawn_octets}

-- well-known: transitive and not optional, with a length of one octet (RFC 4271, section 4.3)
abbrev pub well_known : ℕ → List ℕ → Attribute
well_known code value = record { flags = 0x40; code = code; value = value }

-- optional, of these flags; a value of more than 255 octets has the Extended Length bit too
abbrev pub optional : ℕ → ℕ → List ℕ → Attribute
optional flags code value = record { flags = if nat_le (length value) 255 then flags else (flags + 0x10); code = code; value = value }

-- ORIGIN, type 1, with INCOMPLETE (section 5.1.1)
abbrev pub origin_incomplete : Attribute
origin_incomplete = well_known 1 (2 ∷ [])

-- AS_PATH, type 2: no segment inside the AS, else one AS_SEQUENCE of one number (section 5.1.2) in four octets (RFC 6793)
abbrev pub as_path : Option ℕ → Attribute
as_path None = well_known 2 []
as_path (Some own) = well_known 2 (2 ∷ 1 ∷ to_be_bytes w32 own)

-- NEXT_HOP, type 3 (section 5.1.3), of IPv4 alone: MP_REACH_NLRI has its own (RFC 4760, section 3)
abbrev pub next_hop : Family → ℕ → List Attribute
next_hop V4 number = well_known 3 (to_be_bytes w32 number) ∷ []
next_hop V6 number = []

-- LOCAL_PREF, type 5, inside the AS alone (section 5.1.5)
abbrev pub local_pref : Option ℕ → Option ℕ → List Attribute
local_pref None preference = well_known 5 (to_be_bytes w32 (unwrap_or preference 0)) ∷ []
local_pref (Some own) preference = []

-- COMMUNITIES, type 8, optional and transitive, four octets a number (RFC 1997)
abbrev pub communities : List ℕ → List Attribute
communities [] = []
communities (n ∷ numbers) = optional 0xc0 8 (flat_map (to_be_bytes w32) (n ∷ numbers)) ∷ []

-- MP_REACH_NLRI, type 14, optional and not transitive (RFC 4760, section 3): address family 2 in two octets, unicast, a next hop of sixteen
-- octets, a reserved octet, and the prefixes
abbrev pub mp_reach : Family → ℕ → List PrefixValue → List Attribute
mp_reach V4 hop prefixes = []
mp_reach V6 hop prefixes = optional 0x80 14 ((0 ∷ 2 ∷ 1 ∷ 16 ∷ []) ++ to_be_bytes w128 hop ++ (0 ∷ []) ++ prefixes_bytes prefixes) ∷ []

-- MP_UNREACH_NLRI, type 15, optional and not transitive (section 4): address family 2, unicast, and the prefixes
abbrev pub mp_unreach : Family → List PrefixValue → List Attribute
mp_unreach V4 prefixes = []
mp_unreach V6 prefixes = optional 0x80 15 ((0 ∷ 2 ∷ 1 ∷ []) ++ prefixes_bytes prefixes) ∷ []

-- LARGE_COMMUNITY, type 32, optional and transitive, twelve octets each: the Global Administrator and two parts of local data, of four
-- octets each (RFC 8092, section 3)
abbrev pub twelve_octets : LargeCommunity → List ℕ
twelve_octets c = to_be_bytes w32 c.global ++ to_be_bytes w32 c.first ++ to_be_bytes w32 c.second

abbrev pub large_community : List LargeCommunity → List Attribute
large_community [] = []
large_community (c ∷ numbers) = optional 0xc0 32 (flat_map twelve_octets (c ∷ numbers)) ∷ []

-- what a message of a family tells that withdraws, and one that announces with terms; attributes ascend by type
abbrev pub attributes_told : Family → Peering → List PrefixValue → List PrefixValue → Option Terms → List Attribute
attributes_told family peering withdrawn announced None = mp_unreach family withdrawn
attributes_told family peering withdrawn announced (Some terms) =
    origin_incomplete ∷ as_path peering.own ∷ (next_hop family peering.next_hop ++ (local_pref peering.own terms.preference
    ++ (communities terms.communities ++ (mp_reach family peering.next_hop_v6 announced ++ large_community terms.large))))

-- the prefixes after the message's own lengths: those of IPv4 alone
abbrev pub own_octets : Family → List PrefixValue → List ℕ
own_octets V4 prefixes = prefixes_bytes prefixes
own_octets V6 prefixes = []

-- The message of what is said, read in general, says it.
pub record IsReadAs (family : Family) (peering : Peering) (update : Update) : Type 0 where
  pub withdrawn : withdrawn_octets (update_octets family peering update) ≡ own_octets family update.withdrawn
  pub attributes : attributes_in (attribute_octets (update_octets family peering update))
      ≡ Some (attributes_told family peering update.withdrawn update.announced update.terms)
  pub announced : announced_octets (update_octets family peering update) ≡ own_octets family update.announced

-- what the messages of a family between two tables say
abbrev pub said : Family → Peering → List (PrefixValue × Terms) → List (PrefixValue × Terms) → List Update
said family peering old new = updates_for family peering (of_family family old) (of_family family new)

-- The messages between two tables are those of what is said of IPv4, and then of IPv6, and each is read as what it says.
pub record MessagesAreRead : Type 0 where
  pub messages : (peering : Peering) (old new : List (PrefixValue × Terms))
      → messages_between peering old new ≡ map (update_octets V4 peering) (said V4 peering old new) ++ map (update_octets V6 peering) (said V6 peering old new)
  pub each : (family : Family) (peering : Peering) (old new : List (PrefixValue × Terms)) → IsTable old → IsTable new → All HasFew new
      → AllByRecursion (IsReadAs family peering) (said family peering old new)
