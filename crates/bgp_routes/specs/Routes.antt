-- The routes of a node for a peer, as a function.
use Rattle.std.specs.Prelude.{ℕ, Bool, true, ◌&&◌, ◌||◌, if◌then◌else◌, List, [], ◌∷◌, Option, Some, None}
use Rattle.std.specs.List.{flat_map}
use Rattle.ip_ranges.specs.declared.family.Family.{Family}
use Rattle.ip_ranges.specs.declared.family.Family.TheVariants.{V4, V6}
use Rattle.ip_ranges.specs.Values.{AddressValue, PrefixValue}
use Rattle.kube_labels.specs.Names.{has_text}
use Rattle.kube_model.specs.declared.service.Service.{Service}
use Rattle.mlb_base.specs.Items.{is_nil}
use Rattle.pool_config.specs.declared.compiled.CompiledBgp.{CompiledBgp}
use Rattle.pool_config.specs.declared.compiled.CompiledPeer.{CompiledPeer}
use Rattle.pool_config.specs.declared.compiled.CompiledPool.{CompiledPool}
use Rattle.pool_config.specs.Choice.{chooses, selects}
use Rattle.pool_config.specs.ConfigValue.{ConfigValue}
use Rattle.pool_config.specs.PoolOf.{pool_with}
use Rattle.speaker_view.specs.Endpoints.{can_announce, node_labels}
use Rattle.speaker_view.specs.Held.{objects_of}
use Rattle.speaker_view.specs.ViewValue.{ViewValue}
use Rattle.bgp_updates.specs.declared.route.Terms.{Terms}
use Rattle.bgp_routes.specs.Contribution.{contribution}
use Rattle.bgp_routes.specs.Uniting.{with_contributions}

-- the advertisement names the peer, or none
abbrev pub is_for : CompiledPeer → CompiledBgp → Bool
is_for peer adv = is_nil adv.peers || has_text adv.peers peer.name

-- it chooses the pool, selects the node and is for the peer
abbrev pub advertises : ViewValue → List ℕ → CompiledPeer → CompiledPool → CompiledBgp → Bool
advertises v node peer pool adv =
    (chooses adv.pools adv.pool_selectors pool.name pool.labels && selects adv.node_selectors (node_labels v node)) && is_for peer adv

-- what the advertisements contribute for an address of the pool
abbrev pub of_pool : ViewValue → List ℕ → CompiledPeer → AddressValue → CompiledPool → List CompiledBgp → List (PrefixValue × Terms)
of_pool v node peer address pool [] = []
of_pool v node peer address pool (adv ∷ more) =
    if advertises v node peer pool adv then contribution peer address adv ∷ of_pool v node peer address pool more else of_pool v node peer address pool more

-- an address of no pool contributes nothing
abbrev pub of_found : ViewValue → List ℕ → CompiledPeer → AddressValue → Option CompiledPool → List CompiledBgp → List (PrefixValue × Terms)
of_found v node peer address None bgp = []
of_found v node peer address (Some pool) bgp = of_pool v node peer address pool bgp

-- whether addresses of the family count
abbrev pub counts : Bool → Family → Bool
counts both V4 = true
counts both V6 = both

-- what is contributed for an address; nothing for one of a family that doesn't count
abbrev pub of_address : ViewValue → List ℕ → CompiledPeer → Bool → ConfigValue → AddressValue → List (PrefixValue × Terms)
of_address v node peer both config address =
    if counts both address.family then of_found v node peer address (pool_with config.pools address) config.bgp else []

-- for the addresses recorded on a service that can be announced from the node
abbrev pub of_service : ViewValue → List ℕ → CompiledPeer → Bool → ConfigValue → Service → List (PrefixValue × Terms)
of_service v node peer both config service =
    if can_announce v service node then flat_map (of_address v node peer both config) service.holding.addresses else []

-- for all services, by the configuration in force
abbrev pub of_config : ViewValue → List ℕ → CompiledPeer → Bool → Option ConfigValue → List (PrefixValue × Terms)
of_config v node peer both None = []
of_config v node peer both (Some config) = flat_map (of_service v node peer both config) (objects_of v.held.services)

-- all that contributes to the table; nothing where the peer doesn't select the node
abbrev pub contributions : ViewValue → List ℕ → CompiledPeer → Bool → List (PrefixValue × Terms)
contributions v node peer both =
    if selects peer.node_selectors (node_labels v node) then of_config v node peer both v.held.config else []

-- all that contributes, united
abbrev pub routes_of : ViewValue → List ℕ → CompiledPeer → Bool → List (PrefixValue × Terms)
routes_of v node peer both = with_contributions [] (contributions v node peer both)
