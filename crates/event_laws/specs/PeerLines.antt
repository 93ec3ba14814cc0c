-- The lines that spell BGP peers.
use Rattle.std.specs.Prelude.{◌≡◌, ◌≤◌, ℕ, List, [], ◌∷◌, false, Some, Ok, codes}
use Rattle.serde_json.specs.Data.{Data}
use Rattle.kube_model.specs.declared.event.Event.TheVariants.{Changed}
use Rattle.kube_model.specs.declared.object.Object.TheVariants as objects
use Rattle.kube_model.specs.declared.peer.BgpPeer.{BgpPeer}
use Rattle.kube_events.specs.Event.{event_of_line}
use Rattle.event_laws.specs.ObjectLines.{Field, Head, IsHead, object_line, number_data, SelectorLines, selectors_data, selectors_spelled, Spells}

-- what is chosen freely of the line
pub record PeerLine : Type 0 where
  pub head : Head
  pub my_asn : ℕ
  pub peer_asn : ℕ
  pub node_selectors : SelectorLines

abbrev pub peer_fields : PeerLine → List Field
peer_fields s =
    (codes "myASN", Some (number_data s.my_asn)) ∷
    (codes "nodeSelectors", selectors_data s.node_selectors) ∷
    (codes "peerASN", Some (number_data s.peer_asn)) ∷ []

abbrev pub peer_line : PeerLine → Data
peer_line s = object_line (codes "BGPPeer") s.head false (peer_fields s)

-- the peer that the line spells
abbrev pub peer_spelled : PeerLine → BgpPeer
peer_spelled s = record {
  name = s.head.name;
  my_asn = s.my_asn;
  peer_asn = s.peer_asn;
  node_selectors = selectors_spelled s.node_selectors;
}

-- the number of an autonomous system
abbrev pub IsAsn : ℕ → Type 0
IsAsn n = (1 ≤ n) × (n ≤ 4294967295)

-- The line that spells a peer is read as it.
abbrev pub PeersAreRead : Type 0
PeersAreRead = (line : List ℕ) (s : PeerLine) (n : ℕ) → Spells line (peer_line s) → IsHead s.head n → IsAsn s.my_asn → IsAsn s.peer_asn
    → event_of_line line ≡ Ok (Changed n (objects.Peer (peer_spelled s)))
