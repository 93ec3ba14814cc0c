-- The order in which the first faulty field is named. A row is a field that may be faulty.
use Rattle.std.specs.Prelude.{◌≡◌, List, [], ◌∷◌, Option, Some, None, Result, Ok, Err}
use Rattle.serde_json.specs.Data.{Data}
use Rattle.json_fields.specs.Path.{Path}
use Rattle.kube_model.specs.declared.object.Kind.{Kind}
use Rattle.kube_model.specs.declared.object.Kind.TheVariants as kinds
use Rattle.kube_events.specs.Fields.{name_field, namespace_field, version_field, labels_field, pools_field, pool_selectors_field, node_selectors_field}
use Rattle.kube_events.specs.ServiceFields.{annotations_field, balancer_field, class_field, address_field, families_field}
use Rattle.kube_events.specs.ServiceFields.{prefer_dual_field, policy_field, selector_field, ports_field, places_field}
use Rattle.kube_events.specs.PoolFields.{entries_field, auto_assign_field, avoid_buggy_field, allocation_field}
use Rattle.kube_events.specs.L2Fields.{interfaces_field}
use Rattle.kube_events.specs.BgpFields.{length_field, length_v6_field, local_pref_field, communities_field, peers_field}
use Rattle.kube_events.specs.PeerFields.{my_asn_field, peer_asn_field}
use Rattle.kube_events.specs.CommunityFields.{named_values_field}
use Rattle.kube_events.specs.SliceFields.{endpoints_field}
use Rattle.kube_events.specs.ObjectFields.{stated_object, changed_of, deleted_of}

-- the fault of a row, if it has one
abbrev pub fault : {A : Type 0} → Result A Path → Option Path
fault (Ok x) = None
fault (Err path) = Some path

abbrev pub Rows : Type 0
Rows = List (Option Path)

-- the first fault of some rows
abbrev pub first_of : Rows → Option Path
first_of [] = None
first_of (None ∷ rows) = first_of rows
first_of (Some path ∷ rows) = Some path

-- ---- the rows of each kind beside the metadata

abbrev pub service_rows : Data → Rows
service_rows d =
    fault (annotations_field d) ∷
    fault (balancer_field d) ∷
    fault (class_field d) ∷
    fault (address_field d) ∷
    fault (families_field d) ∷
    fault (prefer_dual_field d) ∷
    fault (policy_field d) ∷
    fault (selector_field d) ∷
    fault (ports_field d) ∷
    fault (places_field d) ∷ []

abbrev pub pool_rows : Data → Rows
pool_rows d = fault (entries_field d) ∷ fault (auto_assign_field d) ∷ fault (avoid_buggy_field d) ∷ fault (allocation_field d) ∷ []

abbrev pub l2_rows : Data → Rows
l2_rows d = fault (pools_field d) ∷ fault (pool_selectors_field d) ∷ fault (node_selectors_field d) ∷ fault (interfaces_field d) ∷ []

abbrev pub bgp_rows : Data → Rows
bgp_rows d =
    fault (length_field d) ∷
    fault (length_v6_field d) ∷
    fault (local_pref_field d) ∷
    fault (communities_field d) ∷
    fault (pools_field d) ∷
    fault (pool_selectors_field d) ∷
    fault (node_selectors_field d) ∷
    fault (peers_field d) ∷ []

abbrev pub peer_rows : Data → Rows
peer_rows d = fault (my_asn_field d) ∷ fault (peer_asn_field d) ∷ fault (node_selectors_field d) ∷ []

abbrev pub own_rows : Kind → Data → Rows
own_rows kinds.Service d = service_rows d
own_rows kinds.Pool d = pool_rows d
own_rows kinds.L2 d = l2_rows d
own_rows kinds.Bgp d = bgp_rows d
own_rows kinds.Peer d = peer_rows d
own_rows kinds.Community d = fault (named_values_field d) ∷ []
own_rows kinds.Namespace d = []
own_rows kinds.Node d = []
own_rows kinds.Slice d = fault (endpoints_field d) ∷ []

-- ---- the first of them is named

-- The fault of an object is that of the first of its rows that has one. Only services and endpoint slices have a namespace.
abbrev pub FaultIsFirst : Type 0
FaultIsFirst = (kind : Kind) (d : Data) → fault (changed_of kind d) ≡ first_of (
    fault (name_field d) ∷
    fault (namespace_field kind d) ∷
    fault (version_field d) ∷
    fault (labels_field d) ∷ own_rows kind d)

-- The version of an object that is stated is no row.
abbrev pub StatedFaultIsFirst : Type 0
StatedFaultIsFirst = (kind : Kind) (d : Data) → fault (stated_object kind d) ≡ first_of (
    fault (name_field d) ∷
    fault (namespace_field kind d) ∷
    fault (labels_field d) ∷ own_rows kind d)

-- Of an object that is gone only its key and its version are rows.
abbrev pub DeletedFaultIsFirst : Type 0
DeletedFaultIsFirst = (kind : Kind) (d : Data) → fault (deleted_of kind d) ≡ first_of (
    fault (name_field d) ∷
    fault (namespace_field kind d) ∷
    fault (version_field d) ∷ [])
