-- What the fields of an object, or of a line, are called in the event that is read.
use Rattle.std.specs.Prelude.{ℕ, List, [], ◌∷◌, map, Bool, false, Option, Some, None, unwrap_or, option_map, codes, if◌then◌else◌}
use Rattle.std.specs.Str.{bytes_eq}
use Rattle.ip_ranges.specs.declared.family.Family.{Family}
use Rattle.ip_ranges.specs.declared.family.Family.TheVariants.{V4, V6}
use Rattle.kube_labels.specs.Pairs.{value_of}
use Rattle.kube_model.specs.declared.key.Key.{Key}
use Rattle.kube_model.specs.declared.object.Kind.{Kind}
use Rattle.kube_model.specs.declared.object.Kind.TheVariants as kinds
use Rattle.kube_model.specs.declared.object.Object.{Object}
use Rattle.kube_model.specs.declared.object.Object.TheVariants as objects
use Rattle.kube_model.specs.declared.event.Event.{Event}
use Rattle.kube_model.specs.declared.event.Event.TheVariants.{Changed, Deleted, Members, Frame}
use Rattle.kube_model.specs.declared.service.Policy.{Policy}
use Rattle.kube_model.specs.declared.service.Policy.TheVariants.{Cluster, Local}
use Rattle.kube_model.specs.declared.service.Service.{Service}
use Rattle.kube_model.specs.declared.pool.Pool.{Pool}
use Rattle.kube_model.specs.declared.l2.L2Adv.{L2Adv}
use Rattle.kube_model.specs.declared.bgp.BgpAdv.{BgpAdv}
use Rattle.kube_model.specs.declared.peer.BgpPeer.{BgpPeer}
use Rattle.kube_model.specs.declared.slice.EndpointSlice.{EndpointSlice}
use Rattle.kube_events.specs.Wanted.{wanted_of}
use Rattle.kube_events.specs.Members.{distinct_names}
use Rattle.field_laws.specs.FieldTypes.{Rows, no_rows, ◌▸◌}
use Rattle.field_laws.specs.Told.{Pairs, RowsTold}
use Rattle.field_laws.specs.Tables.{service_rows, pool_rows, l2_rows, bgp_rows, peer_rows, slice_rows, own_rows, version_row}
use Rattle.field_laws.specs.Tables.{labels_row, keyed, changed_rows, stated_rows, deleted_rows, members_rows, frame_rows}
use Rattle.field_laws.specs.Objects.{selector_with, port_with, addresses_with, allocation_with, named_value_with, endpoint_with}

-- the text of an annotation or of a label, empty where it is absent
abbrev pub text_named : List ℕ → Pairs → List ℕ
text_named name pairs = unwrap_or (value_of name pairs) []

abbrev pub is_said : Option (List ℕ) → List ℕ → Bool
is_said None wanted = false
is_said (Some text) wanted = bytes_eq text wanted

abbrev pub family_with : List ℕ → Family
family_with text = if bytes_eq text (codes "IPv4") then V4 else V6

-- no family means IPv4
abbrev pub families_with : List (List ℕ) → List Family
families_with [] = V4 ∷ []
families_with (text ∷ texts) = map family_with (text ∷ texts)

abbrev pub policy_with : List ℕ → Policy
policy_with text = if bytes_eq text (codes "Cluster") then Cluster else if bytes_eq text (codes "") then Cluster else Local

abbrev pub service_with : Key → Pairs → RowsTold service_rows → Service
service_with key labels (annotations, (type, (class, (address, (families, (family_policy, (policy, (selector, (ports, (places, end)))))))))) = record {
  key = key;
  labels = labels;
  balancer = bytes_eq type (codes "LoadBalancer");
  class = class;
  families = families_with families;
  prefer_dual = is_said family_policy (codes "PreferDualStack");
  policy = policy_with policy;
  selector = selector;
  ports = map port_with ports;
  share_key = text_named (codes "metallb.io/allow-shared-ip") annotations;
  pool_asked = text_named (codes "metallb.io/address-pool") annotations;
  wanted = wanted_of (text_named (codes "metallb.io/loadBalancerIPs") annotations) address;
  holding = record {
    addresses = addresses_with places;
    pool = text_named (codes "metallb.io/ip-allocated-from-pool") annotations;
    mark = text_named (codes "metallb.io/ip-held-as") annotations;
  };
}

abbrev pub pool_with : Key → Pairs → RowsTold pool_rows → Pool
pool_with key labels (entries, (auto_assign, (avoid_buggy, (allocation, end)))) = record {
  name = key.name;
  labels = labels;
  entries = entries;
  auto_assign = auto_assign;
  avoid_buggy = avoid_buggy;
  allocation = option_map allocation_with allocation;
}

abbrev pub l2_with : Key → RowsTold l2_rows → L2Adv
l2_with key (pools, (pool_selectors, (node_selectors, (interfaces, end)))) = record {
  name = key.name;
  pools = pools;
  pool_selectors = map selector_with pool_selectors;
  node_selectors = map selector_with node_selectors;
  interfaces = interfaces;
}

abbrev pub bgp_with : Key → RowsTold bgp_rows → BgpAdv
bgp_with key (length, (length_v6, (local_pref, (communities, (pools, (pool_selectors, (node_selectors, (peers, end)))))))) = record {
  name = key.name;
  length = length;
  length_v6 = length_v6;
  local_pref = local_pref;
  communities = communities;
  pools = pools;
  pool_selectors = map selector_with pool_selectors;
  node_selectors = map selector_with node_selectors;
  peers = peers;
}

abbrev pub peer_with : Key → RowsTold peer_rows → BgpPeer
peer_with key (my_asn, (peer_asn, (node_selectors, end))) = record {
  name = key.name;
  my_asn = my_asn;
  peer_asn = peer_asn;
  node_selectors = map selector_with node_selectors;
}

abbrev pub slice_with : Key → Pairs → RowsTold slice_rows → EndpointSlice
slice_with key labels (endpoints, end) = record {
  key = key;
  service = text_named (codes "kubernetes.io/service-name") labels;
  endpoints = map endpoint_with endpoints;
}

-- the object of a key and labels, by what its own rows tell
abbrev pub object_with : (kind : Kind) → Key → Pairs → RowsTold (own_rows kind) → Object
object_with kinds.Service key labels told = objects.Service (service_with key labels told)
object_with kinds.Pool key labels told = objects.Pool (pool_with key labels told)
object_with kinds.L2 key labels told = objects.L2 (l2_with key told)
object_with kinds.Bgp key labels told = objects.Bgp (bgp_with key told)
object_with kinds.Peer key labels told = objects.Peer (peer_with key told)
object_with kinds.Community key labels (values, end) = objects.Community (record { name = key.name; values = map named_value_with values })
object_with kinds.Namespace key labels end = objects.Namespace (record { name = key.name; labels = labels })
object_with kinds.Node key labels end = objects.Node (record { name = key.name; labels = labels })
object_with kinds.Slice key labels told = objects.Slice (slice_with key labels told)

abbrev pub bare_key : List ℕ → Key
bare_key name = record { namespace = []; name = name }

-- the key, and what the rows after it tell
abbrev pub key_and : (kind : Kind) (rows : Rows) → RowsTold (keyed kind rows) → Key × RowsTold rows
key_and kinds.Service rows (name, (namespace, told)) = (record { namespace = namespace; name = name }, told)
key_and kinds.Slice rows (name, (namespace, told)) = (record { namespace = namespace; name = name }, told)
key_and kinds.Pool rows (name, told) = (bare_key name, told)
key_and kinds.L2 rows (name, told) = (bare_key name, told)
key_and kinds.Bgp rows (name, told) = (bare_key name, told)
key_and kinds.Peer rows (name, told) = (bare_key name, told)
key_and kinds.Community rows (name, told) = (bare_key name, told)
key_and kinds.Namespace rows (name, told) = (bare_key name, told)
key_and kinds.Node rows (name, told) = (bare_key name, told)

abbrev pub changed_by : (kind : Kind) → Key × RowsTold (version_row ▸ labels_row ▸ own_rows kind) → Event
changed_by kind (key, (version, (labels, told))) = Changed version (object_with kind key labels told)

abbrev pub stated_by : (kind : Kind) → Key × RowsTold (labels_row ▸ own_rows kind) → Object
stated_by kind (key, (labels, told)) = object_with kind key labels told

-- the event of an object that is there
abbrev pub changed_with : (kind : Kind) → RowsTold (changed_rows kind) → Event
changed_with kind told = changed_by kind (key_and kind (version_row ▸ labels_row ▸ own_rows kind) told)

abbrev pub stated_with : (kind : Kind) → RowsTold (stated_rows kind) → Object
stated_with kind told = stated_by kind (key_and kind (labels_row ▸ own_rows kind) told)

-- that of one that is gone
abbrev pub deleted_with : (kind : Kind) → RowsTold (deleted_rows kind) → Event
deleted_with kind told = Deleted kind (key_and kind (version_row ▸ no_rows) told).0

abbrev pub members_with : RowsTold members_rows → Event
members_with (names, end) = Members (distinct_names names)

abbrev pub frame_with : RowsTold frame_rows → Event
frame_with (interface, (bytes, end)) = Frame interface bytes
