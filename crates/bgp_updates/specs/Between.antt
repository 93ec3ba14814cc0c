-- The messages between two tables, in octets.
use Rattle.std.specs.Prelude.{◌≡◌, ℕ, ◌≤◌, ◌==◌, if◌then◌else◌, List, [], ◌++◌, length, All, Option, Some, None}
use Rattle.std.specs.List.{flat_map}
use Rattle.std.specs.Map.{keys_of}
use Rattle.ip_ranges.specs.declared.family.Family.{Family}
use Rattle.ip_ranges.specs.declared.family.Family.TheVariants.{V4, V6}
use Rattle.ip_ranges.specs.Values.{AddressValue, PrefixValue}
use Rattle.pool_config.specs.declared.compiled.CompiledPeer.{CompiledPeer}
use Rattle.bgp_updates.specs.declared.route.Terms.{Terms}
use Rattle.bgp_updates.specs.declared.route.Peering.{Peering}
use Rattle.bgp_updates.specs.declared.route.RouteGroup.{RouteGroup}
use Rattle.bgp_updates.specs.Message.{Fits, announced_part, part_message, part_messages, withdrawn_part}
use Rattle.bgp_updates.specs.Received.{Update, changed, gone, groups_from, same_terms}
use Rattle.bgp_updates.specs.Tables.{AreV4, of_family}

-- the number of an address, and 0 without one
abbrev pub number_of_hop : Option AddressValue → ℕ
number_of_hop None = 0
number_of_hop (Some hop) = hop.number

-- The IPv6 next hop is of IPv6, and it is there where a route is of IPv6.
abbrev pub HasHops : Option AddressValue → List (PrefixValue × Terms) → Type 0
HasHops None routes = AreV4 routes
HasHops (Some hop) routes = hop.family ≡ V6

-- the own number where the peer has another, and the next hops
abbrev pub peering_of : CompiledPeer → AddressValue → Option AddressValue → Peering
peering_of peer hop hop_v6 = record {
  own = if peer.my_asn == peer.peer_asn then None else Some peer.my_asn;
  next_hop = hop.number;
  next_hop_v6 = number_of_hop hop_v6;
}

-- the messages that announce a group of a family
abbrev pub group_messages : Family → Peering → RouteGroup → List (List ℕ)
group_messages family peering group = part_messages (announced_part family peering group.terms) group.prefixes

-- of routes of a family: what is withdrawn, and then what is announced, group after group
abbrev pub messages_for : Family → Peering → List (PrefixValue × Terms) → List (PrefixValue × Terms) → List (List ℕ)
messages_for family peering old new =
    part_messages (withdrawn_part family) (keys_of (gone old new))
    ++ flat_map (group_messages family peering) (groups_from same_terms [] (changed same_terms old new))

-- those of IPv4, and then those of IPv6
abbrev pub messages_between : Peering → List (PrefixValue × Terms) → List (PrefixValue × Terms) → List (List ℕ)
messages_between peering old new =
    messages_for V4 peering (of_family V4 old) (of_family V4 new) ++ messages_for V6 peering (of_family V6 old) (of_family V6 new)

-- terms of few communities
abbrev pub AreFew : Terms → Type 0
AreFew terms = (length terms.communities ≤ 512) × (length terms.large ≤ 128)

-- a route of few communities
pub record IsRoute (route : PrefixValue × Terms) : Type 0 where
  pub short : Fits route.0
  pub few : AreFew route.1

-- the same of a group
pub record IsRouteGroup (group : RouteGroup) : Type 0 where
  pub short : All Fits group.prefixes
  pub few : AreFew group.terms

-- the octets of a message of a family that announces with terms, or withdraws where there are none
abbrev pub octets_with : Family → Peering → List PrefixValue → List PrefixValue → Option Terms → List ℕ
octets_with family peering withdrawn announced None = part_message (withdrawn_part family) withdrawn
octets_with family peering withdrawn announced (Some terms) = part_message (announced_part family peering terms) announced

-- the octets of what a message of a family says
abbrev pub update_octets : Family → Peering → Update → List ℕ
update_octets family peering update = octets_with family peering update.withdrawn update.announced update.terms
