-- Which addresses contribute to which prefixes, by which BGPAdvertisement.
use Rattle.std.specs.Prelude.{◌≡◌, ℕ, ◌+◌, Bool, true, false, ◌&&◌, is_some, if◌then◌else◌, List, [], ◌∷◌, Option, Some, None}
use Rattle.std.specs.BTreeMap.{is_at}
use Rattle.std.specs.BTreeSet.{BTreeSet}
use Rattle.std.specs.List.{slice_get}
use Rattle.std.specs.Map.{lookup}
use Rattle.std.specs.Ordering.{nat_cmp, ordering_then}
use Rattle.std.specs.declared.cmp.Ordering.{Ordering}
use Rattle.ip_ranges.specs.Values.{AddressValue, PrefixValue, has_address, same_address}
use Rattle.grouped_keys.specs.Grouped.{in_group}
use Rattle.speaker_view.specs.Addresses.{address_cmp}
use Rattle.speaker_view.specs.ViewValue.{ViewValue}
use Rattle.bgp_updates.specs.declared.route.Terms.{Terms}
use Rattle.bgp_routes.specs.declared.contributors.Aggregate.{Aggregate}
use Rattle.bgp_routes.specs.declared.kept_config.Advertisement.{Advertisement}
use Rattle.bgp_routes.specs.declared.kept_config.KeptPeer.{KeptPeer}
use Rattle.bgp_routes.specs.KeptConfig.{choice_at, kept_config_for, is_set, prefix_of, route_for}
use Rattle.bgp_routes.specs.Placed.{place_cmp, place_of}
use Rattle.bgp_routes.specs.Routes.{counts}

-- aggregates ascend by place, then by advertisement
abbrev pub aggregate_cmp : Aggregate → Aggregate → Ordering
aggregate_cmp g h = ordering_then (place_cmp g.place h.place) (nat_cmp g.advertisement h.advertisement)

-- the addresses of each aggregate that has some
abbrev pub Entries : Type 0
Entries = List (Aggregate × BTreeSet AddressValue)

-- the address stands with the aggregate
abbrev pub has : Entries → Aggregate → AddressValue → Bool
has entries g a = in_group aggregate_cmp address_cmp entries g a

abbrev pub first_of : Option (BTreeSet AddressValue) → Option AddressValue
first_of None = None
first_of (Some addresses) = slice_get addresses.keys 0

-- one that stands with it, if one does
abbrev pub one_of : Entries → Aggregate → Option AddressValue
one_of entries g = first_of (lookup (is_at (aggregate_cmp g)) entries)

-- the aggregate of an address, by the advertisement at the place
abbrev pub aggregate_of : ℕ → Advertisement → AddressValue → Aggregate
aggregate_of place adv a = record { place = place_of (prefix_of adv a); advertisement = place }

-- ---- where addresses may stand
-- the aggregate is the address's own by its advertisement, if there is one
abbrev pub is_own : Aggregate → AddressValue → Option Advertisement → Bool
is_own g a None = false
is_own g a (Some adv) = is_at (place_cmp g.place) (place_of (prefix_of adv a))

-- an address of a family that counts may stand with its own aggregates alone
abbrev pub may_stand : Bool → List Advertisement → Aggregate → AddressValue → Bool
may_stand both advertisements g a = counts both a.family && is_own g a (slice_get advertisements g.advertisement)

abbrev pub StandRight : Bool → List Advertisement → Entries → Type 0
StandRight both advertisements entries = (g : Aggregate) (a : AddressValue) → has entries g a ≡ true → may_stand both advertisements g a ≡ true

-- The address contributes to the aggregate by the view: it may stand there, it is announced from the node, and the advertisement chooses
-- its pool and selects the node.
abbrev pub contributes : ViewValue → List ℕ → Bool → Aggregate → AddressValue → Bool
contributes v node both g a = may_stand both (kept_config_for v node).advertisements g a && is_set (choice_at v node a) g.advertisement

-- ---- what changes
-- the address stands with the aggregate now or doesn't, and nothing else changes
abbrev pub IsPutAt : Aggregate → AddressValue → Bool → Entries → Entries → Type 0
IsPutAt g a stands old new = (h : Aggregate) (b : AddressValue) → has new h b ≡ (if is_at (aggregate_cmp g) h && same_address a b then stands else has old h b)

-- it stands with those of its own aggregates whose flag is set, and no others of its own
abbrev pub IsPutByAll : List Advertisement → List Bool → AddressValue → Entries → Entries → Type 0
IsPutByAll advertisements flags a old new = (g : Aggregate) (b : AddressValue)
    → has new g b ≡ (if same_address a b && is_own g b (slice_get advertisements g.advertisement) then is_set flags g.advertisement else has old g b)

-- at this address it is as the view has it now, and at the others as it was
abbrev pub IsTouched : ViewValue → List ℕ → Bool → AddressValue → Entries → Entries → Type 0
IsTouched v node both a old new = (g : Aggregate) (b : AddressValue) → has new g b ≡ (if same_address a b then contributes v node both g b else has old g b)

-- the same at these
abbrev pub AreTouched : ViewValue → List ℕ → Bool → List AddressValue → Entries → Entries → Type 0
AreTouched v node both addresses old new =
    (g : Aggregate) (b : AddressValue) → has new g b ≡ (if has_address addresses b then contributes v node both g b else has old g b)

-- ---- what a peer is told
-- something contributes to the address's prefix under the advertisement, and the peer receives it
abbrev pub is_told : Entries → KeptPeer → AddressValue → ℕ → Advertisement → Bool
is_told entries peer a place adv = is_set peer.receives place && is_some (one_of entries (aggregate_of place adv a))

-- what is contributed to the prefixes of the address by these advertisements, of which the first has the place
abbrev pub of_advertisements : Entries → KeptPeer → AddressValue → ℕ → List Advertisement → List (PrefixValue × Terms)
of_advertisements entries peer a place [] = []
of_advertisements entries peer a place (adv ∷ more) =
    if is_told entries peer a place adv then route_for peer a adv ∷ of_advertisements entries peer a (place + 1) more
    else of_advertisements entries peer a (place + 1) more

abbrev pub of_address : Entries → List Advertisement → KeptPeer → AddressValue → List (PrefixValue × Terms)
of_address entries advertisements peer a = of_advertisements entries peer a 0 advertisements

abbrev pub of_contributor : KeptPeer → Option AddressValue → Option Advertisement → List (PrefixValue × Terms)
of_contributor peer None adv = []
of_contributor peer (Some a) None = []
of_contributor peer (Some a) (Some adv) = route_for peer a adv ∷ []

-- what is contributed to the aggregate
abbrev pub of_aggregate : Entries → List Advertisement → KeptPeer → Aggregate → List (PrefixValue × Terms)
of_aggregate entries advertisements peer g =
    if is_set peer.receives g.advertisement then of_contributor peer (one_of entries g) (slice_get advertisements g.advertisement) else []
