-- BGP advertisements are read as they are spelled.
use Rattle.std.proofs.Common.{◌≡◌, [], unwrap_or, Ok, codes, refl, arith}
use Rattle.std.proofs.lemmas.Option.{IfSome_then}
use Rattle.serde_json.specs.Data.{Data}
use Rattle.kube_model.specs.declared.object.Kind.TheVariants as kinds
use Rattle.kube_model.specs.declared.object.Object.TheVariants as objects
use Rattle.kube_events.specs.ObjectFields.{body_of}
use Rattle.kube_events.specs.Fields.{pools_field, pool_selectors_field, node_selectors_field}
use Rattle.kube_events.specs.BgpFields.{length_field, length_v6_field, local_pref_field, communities_field, peers_field, bgp_of}
use Rattle.event_laws.specs.ObjectLines.{spelled, object_fields, selectors_spelled}
use Rattle.event_laws.specs.BgpLines.{bgp_fields, BgpAdvsAreRead}
use Rattle.event_laws.proofs.Spelled.{spec_value, head_read, texts_read, selectors_read, number_or_read}

pub bgp_advs_are_read : BgpAdvsAreRead
unfolding body_of bgp_of
bgp_advs_are_read line s n spells is_head in_range =
    let d : Data = spelled (object_fields (codes "BGPAdvertisement") s.head s.without_spec (bgp_fields s)) in
    let length : length_field d ≡ Ok (unwrap_or s.length 32) = number_or_read 1 32 (codes "spec.aggregationLength") 32 d s.length (spec_value
    (codes "spec.aggregationLength") (codes "aggregationLength") (codes "BGPAdvertisement") s.head s.without_spec (bgp_fields s) refl) in_range.0 in
    let length_v6 : length_v6_field d ≡ Ok (unwrap_or s.length_v6 128) =
    number_or_read 0 128 (codes "spec.aggregationLengthV6") 128 d s.length_v6 (spec_value (codes "spec.aggregationLengthV6") (codes "aggregationLengthV6")
    (codes "BGPAdvertisement") s.head s.without_spec (bgp_fields s) refl) (IfSome_then s.length_v6 in_range.1 (λ n h. (omega arith, h))) in
    let local_pref : local_pref_field d ≡ Ok (unwrap_or s.local_pref 0) =
    number_or_read 0 4294967295 (codes "spec.localPref") 0 d s.local_pref (spec_value (codes "spec.localPref") (codes "localPref")
    (codes "BGPAdvertisement") s.head s.without_spec (bgp_fields s) refl) (IfSome_then s.local_pref in_range.2 (λ n h. (omega arith, h))) in
    let communities : communities_field d ≡ Ok (unwrap_or s.communities []) = texts_read (codes "spec.communities") d s.communities
    (spec_value (codes "spec.communities") (codes "communities") (codes "BGPAdvertisement") s.head s.without_spec (bgp_fields s) refl) in
    let pools : pools_field d ≡ Ok (unwrap_or s.pools []) = texts_read (codes "spec.ipAddressPools") d s.pools
    (spec_value (codes "spec.ipAddressPools") (codes "ipAddressPools") (codes "BGPAdvertisement") s.head s.without_spec (bgp_fields s) refl) in
    let pool_selectors : pool_selectors_field d ≡ Ok (selectors_spelled s.pool_selectors) =
    selectors_read (codes "spec.ipAddressPoolSelectors") d s.pool_selectors (spec_value (codes "spec.ipAddressPoolSelectors")
    (codes "ipAddressPoolSelectors") (codes "BGPAdvertisement") s.head s.without_spec (bgp_fields s) refl) in
    let node_selectors : node_selectors_field d ≡ Ok (selectors_spelled s.node_selectors) = selectors_read (codes "spec.nodeSelectors") d s.node_selectors
    (spec_value (codes "spec.nodeSelectors") (codes "nodeSelectors") (codes "BGPAdvertisement") s.head s.without_spec (bgp_fields s) refl) in
    let peers : peers_field d ≡ Ok (unwrap_or s.peers []) = texts_read (codes "spec.peers") d s.peers
    (spec_value (codes "spec.peers") (codes "peers") (codes "BGPAdvertisement") s.head s.without_spec (bgp_fields s) refl) in
    head_read kinds.Bgp line s.head s.without_spec (bgp_fields s) n
    (λ key labels. objects.Bgp (record {
      name = key.name;
      length = unwrap_or s.length 32;
      length_v6 = unwrap_or s.length_v6 128;
      local_pref = unwrap_or s.local_pref 0;
      communities = unwrap_or s.communities [];
      pools = unwrap_or s.pools [];
      pool_selectors = selectors_spelled s.pool_selectors;
      node_selectors = selectors_spelled s.node_selectors;
      peers = unwrap_or s.peers [];
    }))
    spells (λ d. refl) is_head (rw (length, length_v6, local_pref, communities, pools, pool_selectors, node_selectors, peers) refl)
