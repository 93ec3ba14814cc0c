-- How the objects of each kind are keyed and listed.
use Rattle.std.specs.Prelude.{ℕ, List, Option, Some, None}
use Rattle.std.specs.declared.cmp.Ordering.{Ordering}
use Rattle.std.specs.Bool.{then_some}
use Rattle.kube_model.specs.declared.bgp.BgpAdv.{BgpAdv}
use Rattle.kube_model.specs.declared.community.CommunityList.{CommunityList}
use Rattle.kube_model.specs.declared.event.ListGroup.{ListGroup}
use Rattle.kube_model.specs.declared.key.Key.{Key}
use Rattle.kube_model.specs.declared.l2.L2Adv.{L2Adv}
use Rattle.kube_model.specs.declared.namespace.Namespace.{Namespace}
use Rattle.kube_model.specs.declared.node.Node.{Node}
use Rattle.kube_model.specs.declared.object.Kind.{Kind}
use Rattle.kube_model.specs.declared.object.Kind.TheVariants as kinds
use Rattle.kube_model.specs.declared.object.Object.{Object}
use Rattle.kube_model.specs.declared.object.Object.TheVariants as objects
use Rattle.kube_model.specs.declared.peer.BgpPeer.{BgpPeer}
use Rattle.kube_model.specs.declared.pool.Pool.{Pool}
use Rattle.kube_model.specs.declared.record.Record.{Record}
use Rattle.kube_model.specs.declared.service.Service.{Service}
use Rattle.kube_model.specs.declared.slice.EndpointSlice.{EndpointSlice}
use Rattle.kube_labels.specs.Names.{name_cmp}
use Rattle.kube_model.specs.Keys.{key_cmp}
use Rattle.kube_model.specs.Kinds.{group_of}
use Rattle.kube_model.specs.Service.{with_holding}
use Rattle.object_history.specs.Observations.{same_kind}

-- how the objects T of a kind are keyed, by K, and listed
pub record Resource (K T : Type 0) : Type 0 where
  pub cmp : K → K → Ordering  -- how keys are ordered
  pub group : ListGroup  -- the list that the objects come in
  pub shown : Object → Option (K × T)  -- the object under its key, where it is of this kind
  pub deleted : Kind → Key → Option K  -- the key, where it is of this kind
  pub recorded : Key → Record → Option (K × (T → T))  -- the key, and what a written record makes of its object, where this kind has records

-- the object under its key, where it is of the kind, for each kind
abbrev pub show_service : Object → Option (Key × Service)
show_service (objects.Service service) = Some (service.key, service)
show_service (objects.Pool pool) = None
show_service (objects.L2 adv) = None
show_service (objects.Bgp adv) = None
show_service (objects.Peer peer) = None
show_service (objects.Community community) = None
show_service (objects.Namespace namespace) = None
show_service (objects.Node node) = None
show_service (objects.Slice slice) = None

abbrev pub show_pool : Object → Option (List ℕ × Pool)
show_pool (objects.Pool pool) = Some (pool.name, pool)
show_pool (objects.Service service) = None
show_pool (objects.L2 adv) = None
show_pool (objects.Bgp adv) = None
show_pool (objects.Peer peer) = None
show_pool (objects.Community community) = None
show_pool (objects.Namespace namespace) = None
show_pool (objects.Node node) = None
show_pool (objects.Slice slice) = None

abbrev pub show_l2 : Object → Option (List ℕ × L2Adv)
show_l2 (objects.L2 adv) = Some (adv.name, adv)
show_l2 (objects.Service service) = None
show_l2 (objects.Pool pool) = None
show_l2 (objects.Bgp adv) = None
show_l2 (objects.Peer peer) = None
show_l2 (objects.Community community) = None
show_l2 (objects.Namespace namespace) = None
show_l2 (objects.Node node) = None
show_l2 (objects.Slice slice) = None

abbrev pub show_bgp : Object → Option (List ℕ × BgpAdv)
show_bgp (objects.Bgp adv) = Some (adv.name, adv)
show_bgp (objects.Service service) = None
show_bgp (objects.Pool pool) = None
show_bgp (objects.L2 adv) = None
show_bgp (objects.Peer peer) = None
show_bgp (objects.Community community) = None
show_bgp (objects.Namespace namespace) = None
show_bgp (objects.Node node) = None
show_bgp (objects.Slice slice) = None

abbrev pub show_peer : Object → Option (List ℕ × BgpPeer)
show_peer (objects.Peer peer) = Some (peer.name, peer)
show_peer (objects.Service service) = None
show_peer (objects.Pool pool) = None
show_peer (objects.L2 adv) = None
show_peer (objects.Bgp adv) = None
show_peer (objects.Community community) = None
show_peer (objects.Namespace namespace) = None
show_peer (objects.Node node) = None
show_peer (objects.Slice slice) = None

abbrev pub show_community : Object → Option (List ℕ × CommunityList)
show_community (objects.Community community) = Some (community.name, community)
show_community (objects.Service service) = None
show_community (objects.Pool pool) = None
show_community (objects.L2 adv) = None
show_community (objects.Bgp adv) = None
show_community (objects.Peer peer) = None
show_community (objects.Namespace namespace) = None
show_community (objects.Node node) = None
show_community (objects.Slice slice) = None

abbrev pub show_namespace : Object → Option (List ℕ × Namespace)
show_namespace (objects.Namespace namespace) = Some (namespace.name, namespace)
show_namespace (objects.Service service) = None
show_namespace (objects.Pool pool) = None
show_namespace (objects.L2 adv) = None
show_namespace (objects.Bgp adv) = None
show_namespace (objects.Peer peer) = None
show_namespace (objects.Community community) = None
show_namespace (objects.Node node) = None
show_namespace (objects.Slice slice) = None

abbrev pub show_node : Object → Option (List ℕ × Node)
show_node (objects.Node node) = Some (node.name, node)
show_node (objects.Service service) = None
show_node (objects.Pool pool) = None
show_node (objects.L2 adv) = None
show_node (objects.Bgp adv) = None
show_node (objects.Peer peer) = None
show_node (objects.Community community) = None
show_node (objects.Namespace namespace) = None
show_node (objects.Slice slice) = None

abbrev pub show_slice : Object → Option (Key × EndpointSlice)
show_slice (objects.Slice slice) = Some (slice.key, slice)
show_slice (objects.Service service) = None
show_slice (objects.Pool pool) = None
show_slice (objects.L2 adv) = None
show_slice (objects.Bgp adv) = None
show_slice (objects.Peer peer) = None
show_slice (objects.Community community) = None
show_slice (objects.Namespace namespace) = None
show_slice (objects.Node node) = None

-- the key of a service or an endpoint slice, where it is of this kind
abbrev pub deletes : Kind → Kind → Key → Option Key
deletes kind k key = then_some (same_kind kind k) key

-- the name of an object of another kind, where it is of this kind
abbrev pub deletes_named : Kind → Kind → Key → Option (List ℕ)
deletes_named kind k key = then_some (same_kind kind k) key.name

-- services alone have records
abbrev pub no_record : {K T : Type 0} → Key → Record → Option (K × (T → T))
no_record key holding = None

abbrev pub service_resource : Resource Key Service
service_resource = record {
  cmp = key_cmp;
  group = group_of kinds.Service;
  shown = show_service;
  deleted = deletes kinds.Service;
  recorded = λ key holding. Some (key, with_holding holding);
}

abbrev pub pool_resource : Resource (List ℕ) Pool
pool_resource = record { cmp = name_cmp; group = group_of kinds.Pool; shown = show_pool; deleted = deletes_named kinds.Pool; recorded = no_record }

abbrev pub l2_resource : Resource (List ℕ) L2Adv
l2_resource = record { cmp = name_cmp; group = group_of kinds.L2; shown = show_l2; deleted = deletes_named kinds.L2; recorded = no_record }

abbrev pub bgp_resource : Resource (List ℕ) BgpAdv
bgp_resource = record { cmp = name_cmp; group = group_of kinds.Bgp; shown = show_bgp; deleted = deletes_named kinds.Bgp; recorded = no_record }

abbrev pub peer_resource : Resource (List ℕ) BgpPeer
peer_resource = record { cmp = name_cmp; group = group_of kinds.Peer; shown = show_peer; deleted = deletes_named kinds.Peer; recorded = no_record }

abbrev pub community_resource : Resource (List ℕ) CommunityList
community_resource =
    record { cmp = name_cmp; group = group_of kinds.Community; shown = show_community; deleted = deletes_named kinds.Community; recorded = no_record }

abbrev pub namespace_resource : Resource (List ℕ) Namespace
namespace_resource =
    record { cmp = name_cmp; group = group_of kinds.Namespace; shown = show_namespace; deleted = deletes_named kinds.Namespace; recorded = no_record }

abbrev pub node_resource : Resource (List ℕ) Node
node_resource = record { cmp = name_cmp; group = group_of kinds.Node; shown = show_node; deleted = deletes_named kinds.Node; recorded = no_record }

abbrev pub slice_resource : Resource Key EndpointSlice
slice_resource = record { cmp = key_cmp; group = group_of kinds.Slice; shown = show_slice; deleted = deletes kinds.Slice; recorded = no_record }
