-- From which nodes a service's addresses can be announced.
use Rattle.std.specs.Prelude.{◌≡◌, ℕ, Bool, true, false, ◌&&◌, not, is_some, codes, List, [], Option, Some, None, Contains}
use Rattle.std.specs.List.{flat_map, list_any}
use Rattle.std.specs.Str.{bytes_eq}
use Rattle.ip_ranges.specs.Values.{AddressValue, has_address}
use Rattle.kube_labels.specs.Names.{name_cmp}
use Rattle.kube_labels.specs.Pairs.{value_of}
use Rattle.kube_model.specs.declared.key.Key.{Key}
use Rattle.kube_model.specs.declared.node.Node.{Node}
use Rattle.kube_model.specs.declared.service.Policy.{Policy}
use Rattle.kube_model.specs.declared.service.Policy.TheVariants.{Cluster, Local}
use Rattle.kube_model.specs.declared.service.Service.{Service}
use Rattle.kube_model.specs.declared.slice.Endpoint.{Endpoint}
use Rattle.kube_model.specs.declared.slice.EndpointSlice.{EndpointSlice}
use Rattle.kube_model.specs.Service.{is_handled}
use Rattle.pool_config.specs.KeySets.{keys_with}
use Rattle.versioned_map.specs.Objects.{object_at}
use Rattle.speaker_view.specs.Addresses.{address_cmp}
use Rattle.speaker_view.specs.Held.{objects_of}
use Rattle.speaker_view.specs.ViewValue.{ViewValue}

abbrev pub labels_of : Option Node → List (List ℕ × List ℕ)
labels_of None = []
labels_of (Some node) = node.labels

-- the node's labels; a node that isn't held has none
abbrev pub node_labels : ViewValue → List ℕ → List (List ℕ × List ℕ)
node_labels v node = labels_of (object_at name_cmp v.held.nodes node)

-- a node with this label is kept from load balancers (Kubernetes, "Well-Known Labels")
abbrev pub exclude_label : List ℕ
exclude_label = codes "node.kubernetes.io/exclude-from-external-load-balancers"

-- The endpoint is usable, and where the policy is Local (`spec.externalTrafficPolicy`) it is on the node.
pub record ServesFrom (policy : Policy) (node : List ℕ) (endpoint : Endpoint) : Type 0 where
  pub usable : endpoint.usable ≡ true
  pub local : policy ≡ Local → endpoint.node ≡ Some node

-- Some held slice of the service, of its namespace and with its name in the label `kubernetes.io/service-name`, has an endpoint that
-- serves the node.
pub record HasEndpoint (v : ViewValue) (service : Service) (node : List ℕ) : Type 0 where
  pub slice : EndpointSlice
  pub held : Contains (objects_of v.held.slices) slice
  pub namespace : slice.key.namespace ≡ service.key.namespace
  pub name : slice.service ≡ service.key.name
  pub endpoint : Endpoint
  pub there : Contains slice.endpoints endpoint
  pub serves : ServesFrom service.policy node endpoint

-- The service is a load balancer of the class that is announced, it has an endpoint that serves the node, and the node isn't kept
-- from load balancers.
pub record CanAnnounce (v : ViewValue) (service : Service) (node : List ℕ) : Type 0 where
  pub balancer : service.balancer ≡ true
  pub class : v.class ≡ service.class
  pub endpoint : HasEndpoint v service node
  pub allowed : value_of exclude_label (node_labels v node) ≡ None

-- ---- the same as tests
-- the policy lets the node's traffic go to an endpoint on this node, if any is named
abbrev pub reaches : Policy → List ℕ → Option (List ℕ) → Bool
reaches Cluster node at = true
reaches Local node None = false
reaches Local node (Some at) = bytes_eq at node

abbrev pub serves_from : Policy → List ℕ → Endpoint → Bool
serves_from policy node endpoint = endpoint.usable && reaches policy node endpoint.node

-- the slice is one of the service's
abbrev pub is_slice_of : Key → EndpointSlice → Bool
is_slice_of key slice = bytes_eq slice.key.namespace key.namespace && bytes_eq slice.service key.name

-- it is, and has an endpoint that serves the node
abbrev pub slice_serves : Key → Policy → List ℕ → EndpointSlice → Bool
slice_serves key policy node slice = is_slice_of key slice && list_any (serves_from policy node) slice.endpoints

-- some slice is and has
abbrev pub some_serves : List EndpointSlice → Key → Policy → List ℕ → Bool
some_serves slices key policy node = list_any (slice_serves key policy node) slices

abbrev pub endpoint_for : ViewValue → Service → List ℕ → Bool
endpoint_for v service node = some_serves (objects_of v.held.slices) service.key service.policy node

-- nodes with these labels aren't kept from load balancers
abbrev pub allows_balancers : List (List ℕ × List ℕ) → Bool
allows_balancers labels = not (is_some (value_of exclude_label labels))

abbrev pub can_announce : ViewValue → Service → List ℕ → Bool
can_announce v service node = (is_handled v.class service && endpoint_for v service node) && allows_balancers (node_labels v node)

-- some held service that records the address can be announced from the node
abbrev pub announced_from : ViewValue → AddressValue → List ℕ → Bool
announced_from v a node = list_any (λ service. has_address service.holding.addresses a && can_announce v service node) (objects_of v.held.services)

-- some endpoint slice of the service has a usable endpoint on whichever node, as the policy Cluster takes it
abbrev pub has_usable : ViewValue → Service → Bool
has_usable v service = some_serves (objects_of v.held.slices) service.key Cluster []

-- some held service that records the address has one
abbrev pub is_served_in : ViewValue → AddressValue → Bool
is_served_in v a = list_any (λ service. has_address service.holding.addresses a && has_usable v service) (objects_of v.held.services)

-- some held service records the address
abbrev pub is_recorded_in : ViewValue → AddressValue → Bool
is_recorded_in v a = list_any (λ service. has_address service.holding.addresses a) (objects_of v.held.services)

-- those that held services record, each put in its place, once
abbrev pub recorded_addresses : ViewValue → List AddressValue
recorded_addresses v = keys_with address_cmp [] (flat_map (λ service. service.holding.addresses) (objects_of v.held.services))
