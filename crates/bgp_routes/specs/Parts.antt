-- The parts of tables that an event may change.
use Rattle.std.specs.Prelude.{◌≡◌, ℕ, Bool, false, List, [], filter, Option, Some, None}
use Rattle.std.specs.List.{list_any, AllByRecursion}
use Rattle.ip_ranges.specs.Values.{AddressValue, PrefixValue, masked}
use Rattle.pool_config.specs.ConfigValue.{ConfigValue}
use Rattle.pool_config.specs.declared.compiled.CompiledBgp.{CompiledBgp}
use Rattle.pool_config.specs.declared.compiled.CompiledPeer.{CompiledPeer}
use Rattle.speaker_view.specs.ViewValue.{ViewValue}
use Rattle.bgp_updates.specs.declared.route.Terms.{Terms}
use Rattle.bgp_updates.specs.Received.{same_prefix, terms_at}
use Rattle.bgp_routes.specs.Contribution.{length_for}
use Rattle.bgp_routes.specs.Determined.{Ascends}
use Rattle.bgp_routes.specs.Differ.{DiffersAt}
use Rattle.bgp_routes.specs.Few.{HasFewInForce}
use Rattle.bgp_routes.specs.Peers.{tables_of}
use Rattle.bgp_routes.specs.Routes.{routes_of}

-- the prefix of an address under a BGPAdvertisement: the address masked to its family's length
abbrev pub prefix_under : CompiledBgp → AddressValue → PrefixValue
prefix_under adv a = masked a (length_for a.family adv)

-- the BGPAdvertisements of a configuration in force, by name
abbrev pub bgp_in : Option ConfigValue → List CompiledBgp
bgp_in None = []
bgp_in (Some config) = config.bgp

abbrev pub bgp_of : ViewValue → List CompiledBgp
bgp_of v = bgp_in v.held.config

-- the prefix is that of one of these addresses under some advertisement
abbrev pub is_touched : ViewValue → List AddressValue → PrefixValue → Bool
is_touched v addresses p = list_any (λ a. list_any (λ adv. same_prefix p (prefix_under adv a)) (bgp_of v)) addresses

-- the routes of a table whose prefixes are so
abbrev pub part_of : ViewValue → List AddressValue → List (PrefixValue × Terms) → List (PrefixValue × Terms)
part_of v addresses table = filter (λ route. is_touched v addresses route.0) table

-- the communities of the node's routes ascend
abbrev pub CommunitiesAscend : ViewValue → List ℕ → Bool → Type 0
CommunitiesAscend v node both = (peer : CompiledPeer) → AllByRecursion Ascends (routes_of v node peer both)

-- Views that differ at no address have the same tables.
abbrev pub SameViewsKeepTables : Type 0
SameViewsKeepTables = (u v : ViewValue) (node : List ℕ) (both : Bool) → DiffersAt u v node [] → CommunitiesAscend u node both
    → CommunitiesAscend v node both → tables_of u node both ≡ tables_of v node both

-- Where two views differ at these addresses at most, a peer has the same terms at each prefix that isn't theirs.
abbrev pub OthersAgree : Type 0
OthersAgree = (u v : ViewValue) (node : List ℕ) (addresses : List AddressValue) → DiffersAt u v node addresses → HasFewInForce v
    → (peer : CompiledPeer) (both : Bool) (p : PrefixValue) → is_touched v addresses p ≡ false
    → terms_at (routes_of u node peer both) p ≡ terms_at (routes_of v node peer both) p
