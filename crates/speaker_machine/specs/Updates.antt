-- What is told to the BGP peers of an event.
use Rattle.std.specs.Prelude.{◌≡◌, ℕ, Bool, true, ◌&&◌, ◌==◌, is_some, if◌then◌else◌, List, [], map, Option, Some, None}
use Rattle.std.specs.List.{find, flat_map}
use Rattle.std.specs.Str.{bytes_eq}
use Rattle.ip_ranges.specs.declared.family.Family.TheVariants.{V4, V6}
use Rattle.ip_ranges.specs.Values.{AddressValue, PrefixValue, same_family}
use Rattle.mlb_base.specs.Items.{Has}
use Rattle.pool_config.specs.declared.compiled.CompiledPeer.{CompiledPeer}
use Rattle.speaker_view.specs.ViewValue.{ViewValue}
use Rattle.bgp_updates.specs.declared.route.Terms.{Terms}
use Rattle.bgp_updates.specs.Between.{peering_of, messages_between}
use Rattle.bgp_routes.specs.Peers.{peers_of}
use Rattle.bgp_routes.specs.Routes.{routes_of}
use Rattle.speaker_machine.specs.declared.transcript.TranscriptEntry.{TranscriptEntry}
use Rattle.speaker_machine.specs.declared.transcript.TranscriptEntry.TheVariants.{Updated}
use Rattle.speaker_machine.specs.declared.local_node.NextHops.{NextHops}
use Rattle.speaker_machine.specs.declared.local_node.LocalNode.{LocalNode}

-- they have one name and the same AS numbers
abbrev pub is_one_peer : CompiledPeer → CompiledPeer → Bool
is_one_peer p q = bytes_eq q.name p.name && (q.my_asn == p.my_asn) && (q.peer_asn == p.peer_asn)

-- a peer that isn't there has the empty table
abbrev pub table_by : ViewValue → List ℕ → Bool → Option CompiledPeer → List (PrefixValue × Terms)
table_by v node both None = []
table_by v node both (Some peer) = routes_of v node peer both

-- the table of the peer: its routes, where it is there with these AS numbers
abbrev pub table_of : ViewValue → List ℕ → Bool → CompiledPeer → List (PrefixValue × Terms)
table_of v node both peer = table_by v node both (find (is_one_peer peer) (peers_of v))

-- routes of IPv6 are told with a next hop of IPv6 (RFC 2545, section 3)
abbrev pub both_with : NextHops → Bool
both_with hops = is_some hops.v6

-- the messages that make the peer's table of the view after of the one before
abbrev pub messages_to : ViewValue → ViewValue → List ℕ → NextHops → CompiledPeer → List (List ℕ)
messages_to v v' node hops peer =
    messages_between (peering_of peer hops.v4 hops.v6) (table_of v node (both_with hops) peer) (routes_of v' node peer (both_with hops))

abbrev pub updated : CompiledPeer → List ℕ → TranscriptEntry
updated peer message = Updated peer.name message

abbrev pub updates_to : ViewValue → ViewValue → List ℕ → NextHops → CompiledPeer → List TranscriptEntry
updates_to v v' node hops peer = map (updated peer) (messages_to v v' node hops peer)

-- one of IPv6, if it is there
abbrev pub is_v6 : Option AddressValue → Bool
is_v6 None = true
is_v6 (Some hop) = same_family hop.family V6

-- next hops are of their families, as those of words are
abbrev pub are_hops : NextHops → Bool
are_hops hops = same_family hops.v4.family V4 && is_v6 hops.v6

-- what is told to each peer that is there after the event; nothing where there is no next hop
abbrev pub updates_by : ViewValue → ViewValue → List ℕ → Option NextHops → List TranscriptEntry
updates_by v v' node None = []
updates_by v v' node (Some hops) = if are_hops hops then flat_map (updates_to v v' node hops) (peers_of v') else []

abbrev pub update_entries : ViewValue → ViewValue → LocalNode → List TranscriptEntry
update_entries v v' local = updates_by v v' local.node local.next_hops

-- the name and the AS numbers are the peer's
pub record IsSamePeer (peer other : CompiledPeer) : Type 0 where
  pub name : other.name ≡ peer.name
  pub my_asn : other.my_asn ≡ peer.my_asn
  pub peer_asn : other.peer_asn ≡ peer.peer_asn

-- such a peer is one of the configuration in force
abbrev pub IsThere : CompiledPeer → ViewValue → Type 0
IsThere peer v = Has (IsSamePeer peer) (peers_of v)
