-- Protocols, policies and kinds by their texts.
use Rattle.std.specs.Prelude.{ℕ, List, Option, Some, None, Result, codes, if◌then◌else◌}
use Rattle.std.specs.Str.{bytes_eq}
use Rattle.serde_json.specs.Data.{Data}
use Rattle.json_fields.specs.Path.{Path}
use Rattle.json_fields.specs.Reading.{one_of}
use Rattle.kube_model.specs.declared.port.Protocol.{Protocol}
use Rattle.kube_model.specs.declared.port.Protocol.TheVariants.{Tcp, Udp, Sctp}
use Rattle.kube_model.specs.declared.service.Policy.{Policy}
use Rattle.kube_model.specs.declared.service.Policy.TheVariants.{Cluster, Local}
use Rattle.kube_model.specs.declared.object.Kind.{Kind}
use Rattle.kube_model.specs.declared.object.Kind.TheVariants as kinds

abbrev pub protocol_named : List ℕ → Option Protocol
protocol_named name = if bytes_eq name (codes "TCP") then Some Tcp else
    if bytes_eq name (codes "UDP") then Some Udp else
    if bytes_eq name (codes "SCTP") then Some Sctp else None

-- the empty text means Cluster
abbrev pub policy_named : List ℕ → Option Policy
policy_named name = if bytes_eq name (codes "Cluster") then Some Cluster else
    if bytes_eq name (codes "") then Some Cluster else
    if bytes_eq name (codes "Local") then Some Local else None

unfoldable pub protocol_of : Data → Result Protocol Path
protocol_of d = one_of protocol_named d

unfoldable pub policy_of : Data → Result Policy Path
policy_of d = one_of policy_named d

-- the kinds that are read, by the names that Kubernetes has for them
abbrev pub kind_named : List ℕ → Option Kind
kind_named name = if bytes_eq name (codes "Service") then Some kinds.Service else
    if bytes_eq name (codes "IPAddressPool") then Some kinds.Pool else
    if bytes_eq name (codes "L2Advertisement") then Some kinds.L2 else
    if bytes_eq name (codes "BGPAdvertisement") then Some kinds.Bgp else
    if bytes_eq name (codes "BGPPeer") then Some kinds.Peer else
    if bytes_eq name (codes "Community") then Some kinds.Community else
    if bytes_eq name (codes "Namespace") then Some kinds.Namespace else
    if bytes_eq name (codes "Node") then Some kinds.Node else
    if bytes_eq name (codes "EndpointSlice") then Some kinds.Slice else None
