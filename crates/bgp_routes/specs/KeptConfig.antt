-- What is held of the configuration for which routes are kept.
use Rattle.std.specs.Prelude.{ℕ, ◌≤◌, Bool, false, ◌&&◌, ◌==◌, if◌then◌else◌, List, [], length, map, Option, Some, None, unwrap_or}
use Rattle.std.specs.List.{AllByRecursion, slice_get}
use Rattle.std.specs.List.Sorted.{IsStrictlySortedBy}
use Rattle.std.specs.Ordering.{is_lt, nat_cmp}
use Rattle.std.specs.Str.{bytes_eq}
use Rattle.std.specs.declared.cmp.Ordering.{Ordering}
use Rattle.ip_ranges.specs.declared.family.Family.{Family}
use Rattle.ip_ranges.specs.Values.{AddressValue, PrefixValue, masked}
use Rattle.kube_labels.specs.Names.{name_cmp}
use Rattle.large_numbers.specs.Large.{large_cmp}
use Rattle.mlb_base.specs.Items.{Has, IsIn}
use Rattle.pool_config.specs.declared.compiled.CompiledBgp.{CompiledBgp}
use Rattle.pool_config.specs.declared.compiled.CompiledPeer.{CompiledPeer}
use Rattle.pool_config.specs.declared.compiled.CompiledPool.{CompiledPool}
use Rattle.pool_config.specs.Choice.{chooses, selects}
use Rattle.pool_config.specs.ConfigValue.{ConfigValue}
use Rattle.pool_config.specs.PoolOf.{pool_with}
use Rattle.speaker_view.specs.Endpoints.{announced_from, node_labels}
use Rattle.speaker_view.specs.ViewValue.{ViewValue}
use Rattle.bgp_updates.specs.declared.route.Terms.{Terms}
use Rattle.bgp_routes.specs.declared.kept_config.Advertisement.{Advertisement}
use Rattle.bgp_routes.specs.declared.kept_config.KeptPeer.{KeptPeer}
use Rattle.bgp_routes.specs.Contribution.{by_family}
use Rattle.bgp_routes.specs.Parts.{bgp_of}
use Rattle.bgp_routes.specs.Peers.{peers_of}
use Rattle.bgp_routes.specs.Routes.{is_for}

-- the pools of a configuration in force, by name
abbrev pub pools_in : Option ConfigValue → List CompiledPool
pools_in None = []
pools_in (Some config) = config.pools

abbrev pub pools_of : ViewValue → List CompiledPool
pools_of v = pools_in v.held.config

-- ---- what is held
-- of each pool whether the advertisements choose it and select the node, in their order
pub record KeptConfigValue : Type 0 where
  pub advertisements : List Advertisement
  pub choices : List (List Bool)
  pub peers : List KeptPeer

abbrev pub advertisement_of : CompiledBgp → Advertisement
advertisement_of adv = record {
  length = adv.length;
  length_v6 = adv.length_v6;
  local_pref = adv.local_pref;
  communities = adv.communities;
  large = adv.large;
}

-- the advertisement chooses the pool and selects a node of these labels
abbrev pub is_chosen : List (List ℕ × List ℕ) → CompiledPool → CompiledBgp → Bool
is_chosen labels pool adv = chooses adv.pools adv.pool_selectors pool.name pool.labels && selects adv.node_selectors labels

abbrev pub choice_by : List (List ℕ × List ℕ) → List CompiledBgp → CompiledPool → List Bool
choice_by labels bgp pool = map (is_chosen labels pool) bgp

-- the peer selects a node of these labels, and the advertisement is for it
abbrev pub receives : List (List ℕ × List ℕ) → CompiledPeer → CompiledBgp → Bool
receives labels peer adv = selects peer.node_selectors labels && is_for peer adv

abbrev pub peer_by : List (List ℕ × List ℕ) → List CompiledBgp → CompiledPeer → KeptPeer
peer_by labels bgp peer = record { name = peer.name; my_asn = peer.my_asn; peer_asn = peer.peer_asn; receives = map (receives labels peer) bgp }

-- what is right for the view
abbrev pub kept_config_for : ViewValue → List ℕ → KeptConfigValue
kept_config_for v node = record {
  advertisements = map advertisement_of (bgp_of v);
  choices = map (choice_by (node_labels v node) (bgp_of v)) (pools_of v);
  peers = map (peer_by (node_labels v node) (bgp_of v)) (peers_of v);
}

-- ---- what is read of it
-- the flag at the place; there is none past the end
abbrev pub is_set : List Bool → ℕ → Bool
is_set flags place = unwrap_or (slice_get flags place) false

-- how long the family's prefixes are
abbrev pub length_in : Family → Advertisement → ℕ
length_in family adv = by_family family adv.length adv.length_v6

abbrev pub prefix_of : Advertisement → AddressValue → PrefixValue
prefix_of adv a = masked a (length_in a.family adv)

-- a preference is told to a peer of the same AS alone
abbrev pub route_for : KeptPeer → AddressValue → Advertisement → PrefixValue × Terms
route_for peer a adv =
    let preference : Option ℕ = if peer.my_asn == peer.peer_asn then Some adv.local_pref else None in
    (prefix_of adv a, record { preference = preference; communities = adv.communities; large = adv.large })

-- the peer has the name and the AS numbers of this one
abbrev pub is_kept_of : CompiledPeer → KeptPeer → Bool
is_kept_of peer held = bytes_eq held.name peer.name && (held.my_asn == peer.my_asn) && (held.peer_asn == peer.peer_asn)

-- its name comes before this one's
abbrev pub is_before : CompiledPeer → KeptPeer → Bool
is_before peer held = is_lt (name_cmp held.name peer.name)

abbrev pub choice_in : List (List Bool) → Option ℕ → List Bool
choice_in choices None = []
choice_in choices (Some place) = unwrap_or (slice_get choices place) []

-- the pool at the place, if one was found
abbrev pub pool_at : List CompiledPool → Option ℕ → Option CompiledPool
pool_at pools None = None
pool_at pools (Some place) = slice_get pools place

abbrev pub choice_of : List (List ℕ × List ℕ) → List CompiledBgp → Option CompiledPool → List Bool
choice_of labels bgp None = []
choice_of labels bgp (Some pool) = choice_by labels bgp pool

-- which of the advertisements choose the address's pool and select the node, where the address is announced from it; none else
abbrev pub choice_at : ViewValue → List ℕ → AddressValue → List Bool
choice_at v node a = if announced_from v a node then choice_of (node_labels v node) (bgp_of v) (pool_with (pools_of v) a) else []

-- the communities of a kind that each advertisement has ascend, and those of all, each counted once, are at most so many
pub record AreAtMost {K : Type 0} (limit : ℕ) (R : K → K → Ordering) (kind : Advertisement → List K) (advertisements : List Advertisement) : Type 0 where
  pub ascend : AllByRecursion (λ adv. IsStrictlySortedBy R (kind adv)) advertisements
  pub few : (ks : List K) → IsStrictlySortedBy R ks → AllByRecursion (λ k. Has (λ adv. IsIn (kind adv) k) advertisements) ks → length ks ≤ limit

-- at most 512 communities, and at most 128 large ones
pub record AreFew (advertisements : List Advertisement) : Type 0 where
  pub numbers : AreAtMost 512 nat_cmp (λ adv. adv.communities) advertisements
  pub large : AreAtMost 128 large_cmp (λ adv. adv.large) advertisements
