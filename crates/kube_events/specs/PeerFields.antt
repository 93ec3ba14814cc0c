-- The fields of a BGP peer beside its metadata, in the order in which the first faulty one is named.
use Rattle.std.specs.Prelude.{ℕ, Result, Ok, codes}
use Rattle.serde_json.specs.Data.{Data}
use Rattle.json_fields.specs.Path.{Path}
use Rattle.json_fields.specs.Reading.{◌>>=◌, required_at, number_in}
use Rattle.kube_model.specs.declared.key.Key.{Key}
use Rattle.kube_model.specs.declared.peer.BgpPeer.{BgpPeer}
use Rattle.kube_events.specs.Fields.{node_selectors_field}
use Rattle.kube_events.specs.declared.peer_fields.PeerSpec.{PeerSpec}

abbrev pub my_asn_field : Data → Result ℕ Path
my_asn_field d = required_at (number_in 1 4294967295) (codes "spec.myASN") d

abbrev pub peer_asn_field : Data → Result ℕ Path
peer_asn_field d = required_at (number_in 1 4294967295) (codes "spec.peerASN") d

-- the peer of a key
unfoldable pub peer_of : Data → Result (Key → BgpPeer) Path
peer_of d = do
  my_asn ← my_asn_field d
  peer_asn ← peer_asn_field d
  node_selectors ← node_selectors_field d
  Ok (λ key. record { name = key.name; my_asn = my_asn; peer_asn = peer_asn; node_selectors = node_selectors })

-- ---- as it is read

abbrev pub peer_with : PeerSpec → Key → BgpPeer
peer_with s key = record { name = key.name; my_asn = s.my_asn; peer_asn = s.peer_asn; node_selectors = s.node_selectors }
