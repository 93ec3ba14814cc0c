-- BGP peers are read as they are spelled.
use Rattle.std.proofs.Common.{◌≡◌, false, Ok, codes, refl}
use Rattle.serde_json.specs.Data.{Data}
use Rattle.json_fields.specs.Reading.{number_in}
use Rattle.kube_model.specs.declared.object.Kind.TheVariants as kinds
use Rattle.kube_model.specs.declared.object.Object.TheVariants as objects
use Rattle.kube_events.specs.ObjectFields.{body_of}
use Rattle.kube_events.specs.Fields.{node_selectors_field}
use Rattle.kube_events.specs.PeerFields.{my_asn_field, peer_asn_field, peer_of}
use Rattle.event_laws.specs.ObjectLines.{spelled, object_fields, number_data, selectors_spelled}
use Rattle.event_laws.specs.PeerLines.{peer_fields, PeersAreRead}
use Rattle.event_laws.proofs.Spelled.{spec_value, head_read, required_read, number_read, selectors_read}

pub peers_are_read : PeersAreRead
unfolding body_of peer_of
peers_are_read line s n spells is_head is_own is_other =
    let d : Data = spelled (object_fields (codes "BGPPeer") s.head false (peer_fields s)) in
    let my_asn : my_asn_field d ≡ Ok s.my_asn = required_read (number_in 1 4294967295) (codes "spec.myASN") d (number_data s.my_asn) s.my_asn
    (spec_value (codes "spec.myASN") (codes "myASN") (codes "BGPPeer") s.head false (peer_fields s) refl) (number_read 1 4294967295 s.my_asn is_own) in
    let peer_asn : peer_asn_field d ≡ Ok s.peer_asn =
    required_read (number_in 1 4294967295) (codes "spec.peerASN") d (number_data s.peer_asn) s.peer_asn (spec_value (codes "spec.peerASN") (codes "peerASN")
    (codes "BGPPeer") s.head false (peer_fields s) refl) (number_read 1 4294967295 s.peer_asn is_other) in
    let node_selectors : node_selectors_field d ≡ Ok (selectors_spelled s.node_selectors) = selectors_read (codes "spec.nodeSelectors") d s.node_selectors
    (spec_value (codes "spec.nodeSelectors") (codes "nodeSelectors") (codes "BGPPeer") s.head false (peer_fields s) refl) in
    head_read kinds.Peer line s.head false (peer_fields s) n
    (λ key labels. objects.Peer (record { name = key.name; my_asn = s.my_asn; peer_asn = s.peer_asn; node_selectors = selectors_spelled s.node_selectors }))
    spells (λ d. refl) is_head (rw (my_asn, peer_asn, node_selectors) refl)
