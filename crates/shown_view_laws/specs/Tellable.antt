-- The routes that can be told to a peer.
use Rattle.std.specs.Prelude.{◌<◌, ◌^◌, ℕ, Bool, List, Option}
use Rattle.ip_ranges.specs.Values.{AddressValue}
use Rattle.pool_config.specs.declared.compiled.CompiledPeer.{CompiledPeer}
use Rattle.speaker_view.specs.ViewValue.{ViewValue}
use Rattle.bgp_updates.specs.Between.{number_of_hop, peering_of}
use Rattle.bgp_reading.specs.Laws.{CanBeTold}
use Rattle.bgp_routes.specs.Routes.{routes_of}
use Rattle.bgp_routes.specs.Few.{HasFewInForce}
use Rattle.shown_view_laws.specs.Numbered.{IsNumbered, HasCompiledAsn}

-- By a view that lines lead to, the routes of a peer, of IPv4 alone or of both families, can be told by a sender whose AS number and IPv4
-- next hop have 32 bits, and whose IPv6 next hop, if it has one, 128.
abbrev pub RoutesCanBeTold : Type 0
RoutesCanBeTold = (v : ViewValue) (node : List ℕ) (peer : CompiledPeer) (both : Bool) (hop : AddressValue) (hop_v6 : Option AddressValue)
    → IsNumbered v → HasFewInForce v → HasCompiledAsn peer → hop.number < 2 ^ 32 → number_of_hop hop_v6 < 2 ^ 128
    → CanBeTold (peering_of peer hop hop_v6) (routes_of v node peer both)
