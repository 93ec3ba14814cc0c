-- The routes of IPv4 alone, and those of both families.
use Rattle.std.specs.Prelude.{◌≡◌, ℕ, true, false, List}
use Rattle.ip_ranges.specs.declared.family.Family.TheVariants.{V4}
use Rattle.pool_config.specs.declared.compiled.CompiledPeer.{CompiledPeer}
use Rattle.speaker_view.specs.ViewValue.{ViewValue}
use Rattle.bgp_updates.specs.Tables.{AreV4, of_family}
use Rattle.bgp_routes.specs.Few.{HasFewInForce}
use Rattle.bgp_routes.specs.Routes.{routes_of}

-- Where IPv4 alone counts, each route is of IPv4.
abbrev pub RoutesAreOfIpv4 : Type 0
RoutesAreOfIpv4 = (v : ViewValue) (node : List ℕ) (peer : CompiledPeer) → AreV4 (routes_of v node peer false)

-- They are those of both families that are of IPv4.
abbrev pub Ipv4RoutesAreTheSame : Type 0
Ipv4RoutesAreTheSame = (v : ViewValue) (node : List ℕ) (peer : CompiledPeer) → HasFewInForce v
    → routes_of v node peer false ≡ of_family V4 (routes_of v node peer true)
