-- The peers of a view, each with its table.
use Rattle.std.specs.Prelude.{ℕ, Bool, ◌&&◌, ◌==◌, List, [], map, find, Option, Some, None}
use Rattle.std.specs.Option.{option_map}
use Rattle.std.specs.Str.{bytes_eq}
use Rattle.ip_ranges.specs.Values.{PrefixValue}
use Rattle.pool_config.specs.ConfigValue.{ConfigValue}
use Rattle.pool_config.specs.declared.compiled.CompiledPeer.{CompiledPeer}
use Rattle.speaker_view.specs.ViewValue.{ViewValue}
use Rattle.bgp_updates.specs.declared.route.Terms.{Terms}
use Rattle.bgp_routes.specs.Routes.{routes_of}

-- a peer's name, its AS numbers and its table
pub record PeerTable : Type 0 where
  pub name : List ℕ
  pub my_asn : ℕ
  pub peer_asn : ℕ
  pub routes : List (PrefixValue × Terms)

-- the peers of a configuration in force, by name
abbrev pub peers_in : Option ConfigValue → List CompiledPeer
peers_in None = []
peers_in (Some config) = config.peers

abbrev pub peers_of : ViewValue → List CompiledPeer
peers_of v = peers_in v.held.config

-- the peer's table by the view
abbrev pub table_at : ViewValue → List ℕ → Bool → CompiledPeer → PeerTable
table_at v node both peer = record { name = peer.name; my_asn = peer.my_asn; peer_asn = peer.peer_asn; routes = routes_of v node peer both }

-- those of all peers
abbrev pub tables_of : ViewValue → List ℕ → Bool → List PeerTable
tables_of v node both = map (table_at v node both) (peers_of v)

-- the table is that of a peer of this name, with these AS numbers
abbrev pub is_table_of : CompiledPeer → PeerTable → Bool
is_table_of peer table = bytes_eq table.name peer.name && (table.my_asn == peer.my_asn) && (table.peer_asn == peer.peer_asn)

-- the first table that is so
abbrev pub table_found : CompiledPeer → List PeerTable → Option (List (PrefixValue × Terms))
table_found peer tables = option_map (λ table. table.routes) (find (is_table_of peer) tables)
