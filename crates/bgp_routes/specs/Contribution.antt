-- What contributes to the routes of a node for a peer.
use Rattle.std.specs.Prelude.{◌≡◌, ℕ, Bool, true, ◌==◌, if◌then◌else◌, List, [], Option, Some, None, ◌⊎◌}
use Rattle.ip_ranges.specs.declared.family.Family.{Family}
use Rattle.ip_ranges.specs.declared.family.Family.TheVariants.{V4, V6}
use Rattle.ip_ranges.specs.Values.{AddressValue, PrefixValue, masked}
use Rattle.mlb_base.specs.Items.{IsIn}
use Rattle.pool_config.specs.declared.compiled.CompiledBgp.{CompiledBgp}
use Rattle.pool_config.specs.declared.compiled.CompiledPeer.{CompiledPeer}
use Rattle.pool_config.specs.Choice.{Selects}
use Rattle.pool_config.specs.ConfigValue.{ConfigValue}
use Rattle.speaker_view.specs.Advertised.{IsAnnouncedFrom, IsMeant}
use Rattle.speaker_view.specs.Endpoints.{node_labels}
use Rattle.speaker_view.specs.ViewValue.{ViewValue}
use Rattle.bgp_updates.specs.declared.route.Terms.{Terms}

-- IPv4 counts always, IPv6 where both families do
abbrev pub Counts : Bool → Family → Type 0
Counts both family = (family ≡ V4) ⊎ (both ≡ true)

-- The BGPAdvertisement is one of the configuration in force, is meant for the pool that has the address, and for the node, and names the peer or none
-- (`spec.peers`).
pub record IsAdvertisedBy (v : ViewValue) (node : List ℕ) (peer : CompiledPeer) (address : AddressValue) (advertisement : CompiledBgp) : Type 0 where
  pub config : ConfigValue
  pub there : IsIn config.bgp advertisement
  pub meant : IsMeant v address node config advertisement.pools advertisement.pool_selectors advertisement.node_selectors
  pub named : (advertisement.peers ≡ []) ⊎ IsIn advertisement.peers peer.name

-- a preference is told to a peer of the same AS alone
abbrev pub told : CompiledPeer → ℕ → Option ℕ
told peer preference = if peer.my_asn == peer.peer_asn then Some preference else None

-- that of the family, of one number for IPv4 and one for IPv6
abbrev pub by_family : Family → ℕ → ℕ → ℕ
by_family V4 four six = four
by_family V6 four six = six

-- how long the family's prefixes are: `spec.aggregationLength` of IPv4, `spec.aggregationLengthV6` of IPv6
abbrev pub length_for : Family → CompiledBgp → ℕ
length_for family adv = by_family family adv.length adv.length_v6

-- what the advertisement contributes for the address: the address masked to its family's length, with `spec.localPref` and the communities,
-- large ones too
abbrev pub contribution : CompiledPeer → AddressValue → CompiledBgp → PrefixValue × Terms
contribution peer address adv =
    (masked address (length_for address.family adv), record { preference = told peer adv.local_pref; communities = adv.communities; large = adv.large })

-- The peer selects the node, and an advertisement contributes this for an address of a family that counts, which is announced from the node.
pub record IsContribution (v : ViewValue) (node : List ℕ) (peer : CompiledPeer) (both : Bool) (c : PrefixValue × Terms) : Type 0 where
  pub peer_selects : Selects peer.node_selectors (node_labels v node)
  pub address : AddressValue
  pub counts : Counts both address.family
  pub announced : IsAnnouncedFrom v address node
  pub advertisement : CompiledBgp
  pub advertised : IsAdvertisedBy v node peer address advertisement
  pub is : c ≡ contribution peer address advertisement
