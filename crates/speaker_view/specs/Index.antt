-- Which held services record an address, and which held endpoint slices are of a service, by their keys.
use Rattle.std.specs.Prelude.{◌≡◌, ℕ, Bool, true, false, ◌&&◌, List, Option, Some, None, ⊤}
use Rattle.std.specs.BTreeSet.{BTreeSet, contains}
use Rattle.std.specs.List.{list_any}
use Rattle.std.specs.List.Sorted.{IsStrictlySortedBy}
use Rattle.std.specs.Map.{keys_of}
use Rattle.ip_ranges.specs.Values.{AddressValue, has_address}
use Rattle.kube_model.specs.Keys.{key_cmp}
use Rattle.kube_model.specs.declared.event.Event.{Event}
use Rattle.kube_model.specs.declared.event.Event.TheVariants.{Changed, Deleted, ListEnd, Expired, Members, Frame, Ignored}
use Rattle.kube_model.specs.declared.key.Key.{Key}
use Rattle.kube_model.specs.declared.object.Object.{Object}
use Rattle.kube_model.specs.declared.object.Object.TheVariants as objects
use Rattle.kube_model.specs.declared.service.Service.{Service}
use Rattle.kube_model.specs.declared.slice.EndpointSlice.{EndpointSlice}
use Rattle.versioned_map.specs.declared.map.Versioned.{Versioned}
use Rattle.versioned_map.specs.Objects.{object_at}
use Rattle.grouped_keys.specs.Grouped.{in_group}
use Rattle.object_history.specs.Cache.{Cached, cached_after}
use Rattle.object_history.specs.Observations.{Watched}
use Rattle.speaker_view.specs.declared.index.Index.{Index}
use Rattle.speaker_view.specs.Addresses.{address_cmp}
use Rattle.speaker_view.specs.Endpoints.{announced_from, can_announce, is_slice_of}
use Rattle.speaker_view.specs.Grouped.{service_of}
use Rattle.speaker_view.specs.ViewValue.{ViewValue}

-- the key stands under the address
abbrev pub is_recorder : Index → AddressValue → Key → Bool
is_recorder index a key = in_group address_cmp key_cmp index.services_by_address a key

-- the key stands under the service
abbrev pub is_slice : Index → Key → Key → Bool
is_slice index service key = in_group key_cmp key_cmp index.slices service key

-- the key stands under the address, as that of a service with a usable endpoint
abbrev pub is_server : Index → AddressValue → Key → Bool
is_server index a key = in_group address_cmp key_cmp index.servers_by_address a key

-- some endpoint of the slice is usable
abbrev pub is_ready : EndpointSlice → Bool
is_ready slice = list_any (λ endpoint. endpoint.usable) slice.endpoints

-- the key stands under each address that the service records
abbrev pub IsUnderAll : Index → Key → Service → Type 0
IsUnderAll index key service = (a : AddressValue) → has_address service.holding.addresses a ≡ true → is_recorder index a key ≡ true

-- so it does as that of a service with a usable endpoint
abbrev pub ServesAll : Index → Key → Service → Type 0
ServesAll index key service = (a : AddressValue) → has_address service.holding.addresses a ≡ true → is_server index a key ≡ true

-- the slices
abbrev pub Slices : Type 0
Slices = List (Key × Versioned EndpointSlice)

-- it does where one of the held endpoint slices is of the service and has a usable endpoint
abbrev pub ServesIfReady : Index → Slices → Key → Service → Type 0
ServesIfReady index slices key service =
    (at : Key) (slice : EndpointSlice) → object_at key_cmp slices at ≡ Some slice → is_ready slice ≡ true → service_of slice ≡ key → ServesAll index key service

-- Each held service stands under its own key, and under each address that it records; each held endpoint slice with a usable endpoint stands under its
-- service, which stands under each address that it records as one with a usable endpoint. What isn't held may stand there too.
pub record Covers (index : Index) (held : Cached) : Type 0 where
  pub services_by_address : (key : Key) (service : Service) → object_at key_cmp held.services key ≡ Some service → IsUnderAll index key service
  pub slices : (key : Key) (slice : EndpointSlice) → object_at key_cmp held.slices key ≡ Some slice → is_ready slice ≡ true
      → is_slice index (service_of slice) key ≡ true
  pub servers : (key : Key) (service : Service) → object_at key_cmp held.services key ≡ Some service → ServesIfReady index held.slices key service
  pub own : (key : Key) (service : Service) → object_at key_cmp held.services key ≡ Some service → service.key ≡ key

-- what stands in the one stands in the other
pub record Grows (index index' : Index) : Type 0 where
  pub services_by_address : (a : AddressValue) (key : Key) → is_recorder index a key ≡ true → is_recorder index' a key ≡ true
  pub slices : (service key : Key) → is_slice index service key ≡ true → is_slice index' service key ≡ true
  pub servers : (a : AddressValue) (key : Key) → is_server index a key ≡ true → is_server index' a key ≡ true

-- the service stands where it is looked for
pub record HasService (index : Index) (held : Cached) (service : Service) : Type 0 where
  pub under : IsUnderAll index service.key service
  pub serves : ServesIfReady index held.slices service.key service

-- so does the endpoint slice, with its service
pub record HasSlice (index : Index) (held : Cached) (slice : EndpointSlice) : Type 0 where
  pub there : is_slice index (service_of slice) slice.key ≡ true
  pub serves : (service : Service) → object_at key_cmp held.services (service_of slice) ≡ Some service → ServesAll index (service_of slice) service

-- so does the object
abbrev pub HasObject : Index → Cached → Object → Type 0
HasObject index held (objects.Service service) = HasService index held service
HasObject index held (objects.Slice slice) = is_ready slice ≡ true → HasSlice index held slice
HasObject index held (objects.Pool pool) = ⊤
HasObject index held (objects.L2 adv) = ⊤
HasObject index held (objects.Bgp adv) = ⊤
HasObject index held (objects.Peer peer) = ⊤
HasObject index held (objects.Community community) = ⊤
HasObject index held (objects.Namespace namespace) = ⊤
HasObject index held (objects.Node node) = ⊤

-- so does the object that the event shows
abbrev pub HasShown : Index → Cached → Event → Type 0
HasShown index held (Changed version object) = HasObject index held object
HasShown index held (Deleted kind key) = ⊤
HasShown index held (ListEnd group) = ⊤
HasShown index held Expired = ⊤
HasShown index held (Members names) = ⊤
HasShown index held (Frame interface bytes) = ⊤
HasShown index held Ignored = ⊤

-- ---- asked one key after the other
-- the object passes, if there is one
abbrev pub passes : {T : Type 0} → (T → Bool) → Option T → Bool
passes test None = false
passes test (Some object) = test object

-- the service records the address, if there is one
abbrev pub records_in : Option Service → AddressValue → Bool
records_in service a = passes (λ s. has_address s.holding.addresses a) service

-- the endpoint slice is of the service and has a usable endpoint, if there is one
abbrev pub is_ready_of : Option EndpointSlice → Key → Bool
is_ready_of slice service = passes (λ s. is_slice_of service s && is_ready s) slice

-- ---- laws
-- an event leaves what is held covered by an index that has the object which it shows
abbrev pub IndexCoversOn : Type 0
IndexCoversOn = (index : Index) (held : Cached) (event : Event) → IsStrictlySortedBy key_cmp (keys_of held.services)
    → IsStrictlySortedBy key_cmp (keys_of held.slices)
    → HasShown index held event → Covers index held → Covers index (cached_after (Watched event) held)

-- some service of these keys passes
abbrev pub announces_among : ViewValue → AddressValue → List ℕ → List Key → Bool
announces_among v a node keys =
    list_any (λ key. passes (λ service. has_address service.holding.addresses a && can_announce v service node) (object_at key_cmp v.held.services key)) keys

-- the keys under an address are enough to know whether it is announced from a node
abbrev pub FoundByIndex : Type 0
FoundByIndex = (index : Index) (v : ViewValue) → Covers index v.held → IsStrictlySortedBy key_cmp (keys_of v.held.services)
    → (a : AddressValue) (node : List ℕ) (keys : BTreeSet Key) → ((key : Key) → contains key_cmp keys key ≡ is_recorder index a key)
    → announces_among v a node keys.keys ≡ announced_from v a node
