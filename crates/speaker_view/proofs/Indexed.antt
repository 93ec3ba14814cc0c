-- What stands in the index after a change, and what is found by it.
use Rattle.std.proofs.Common.{◌≡◌, ℕ, Bool, true, false, cond, not, ◌&&◌, ◌||◌, List, [], ◌∷◌, filter, Option}
use Rattle.std.proofs.Common.{Some, None, Result, Ok, Err, Contains, Ordering, is_eq, refl, sym, ap, subst, ◌∙◌}
use Rattle.std.proofs.lemmas.Bool.{and_parts, and_from, or_left, or_right, true≢false}
use Rattle.std.specs.BTreeMap.{is_at}
use Rattle.std.specs.BTreeSet.{BTreeSet, contains}
use Rattle.std.specs.Cmp.{IsTotalOrder, tied_itself}
use Rattle.std.proofs.lemmas.List.Folds.{list_any-append}
use Rattle.std.proofs.lemmas.Map.Views.{any-filter_same}
use Rattle.std.specs.List.{flat_map, list_any}
use Rattle.std.specs.List.Sorted.{IsStrictlySortedBy}
use Rattle.std.specs.Map.{lookup, keys_of}
use Rattle.std.specs.Result.{OnOk, OnErr}
use Rattle.grouped_keys.specs.Grouped.{in_group, is_in}
use Rattle.ip_ranges.specs.contracts.address.AddressOrd.TheImpl as derived
use Rattle.ip_ranges.specs.Values.{AddressValue, has_address, same_address}
use Rattle.ip_ranges.proofs.AddressLaws.{has_address-is, same_address-is}
use Rattle.pool_config.specs.KeySets.{keys_with}
use Rattle.kube_model.proofs.KeyLaws.{is_eq-key_cmp, key_cmp-total, key_cmp-exact, same_key-is}
use Rattle.kube_model.specs.Keys.{key_cmp, same_key}
use Rattle.kube_model.specs.declared.key.Key.{Key}
use Rattle.kube_model.specs.Service.{is_handled}
use Rattle.kube_model.specs.declared.service.Policy.{Policy}
use Rattle.kube_model.specs.declared.service.Policy.TheVariants.{Cluster}
use Rattle.kube_model.specs.declared.service.Service.{Service}
use Rattle.kube_model.specs.declared.slice.Endpoint.{Endpoint}
use Rattle.kube_model.specs.declared.slice.EndpointSlice.{EndpointSlice}
use Rattle.object_history.specs.Cache.{Cached}
use Rattle.versioned_map.specs.Objects.{object_at}
use Rattle.speaker_view.specs.declared.index.Index.{Index}
use Rattle.speaker_view.specs.Addresses.{address_cmp}
use Rattle.speaker_view.specs.Endpoints.{allows_balancers, announced_from, can_announce, endpoint_for, has_usable, is_recorded_in, is_served_in, node_labels, reaches}
use Rattle.speaker_view.specs.Endpoints.{recorded_addresses, is_slice_of, serves_from, slice_serves, some_serves}
use Rattle.speaker_view.specs.Grouped.{service_of}
use Rattle.speaker_view.specs.Held.{objects_of}
use Rattle.speaker_view.specs.Index.{Covers, FoundByIndex, Grows, announces_among, is_recorder, is_server, is_slice, passes, records_in}
use Rattle.speaker_view.specs.ViewValue.{ViewValue}
use Rattle.speaker_view.proofs.AddressOrder.{address_cmp-is, address_total, ascending-distinct, ascending-same, found-has, has-distinct, same-at}
use Rattle.speaker_view.proofs.KeyLookups.{any-keys, passing}
use Rattle.speaker_view.proofs.Served.{any-implies, endpoint-usable}

-- ---- a key was put in, or taken out
module _ {G K : Type 0} (R : G → G → Ordering) (S : K → K → Ordering) (old new : List (G × BTreeSet K)) (group : G) (key : K) where
  abbrev pub IsPut : Type 0
  IsPut = in_group R S new ≡ (λ g k. is_at (R group) g && is_at (S key) k || in_group R S old g k)

  abbrev pub IsTaken : Type 0
  IsTaken = in_group R S new ≡ (λ g k. not (is_at (R group) g && is_at (S key) k) && in_group R S old g k)

  put-has : IsTotalOrder R → IsTotalOrder S → IsPut → in_group R S new group key ≡ true
  put-has o p is =
      ap (λ f. f group key) is
      ∙ or_left (is_at (R group) group && is_at (S key) key) (in_group R S old group key)
      (and_from (is_at (R group) group) (is_at (S key) key) (ap is_eq (tied_itself o group)) (ap is_eq (tied_itself p key)))

  put-keeps : IsPut → (g : G) (k : K) → in_group R S old g k ≡ true → in_group R S new g k ≡ true
  put-keeps is g k e = ap (λ f. f g k) is ∙ or_right (is_at (R group) g && is_at (S key) k) (in_group R S old g k) e

  result-keeps : {A E : Type 0} (r : Result A E) → OnOk r IsPut → OnErr r (new ≡ old) → (g : G) (k : K) → in_group R S old g k ≡ true
      → in_group R S new g k ≡ true
  result-keeps (Ok x) put same g k e = put-keeps put g k e
  result-keeps (Err x) put same g k e = ap (λ entries. in_group R S entries g k) same ∙ e

  result-has : {A E : Type 0} (r : Result A E) → IsTotalOrder R → IsTotalOrder S → OnOk r IsPut → OnOk r (in_group R S new group key ≡ true)
  result-has (Ok x) o p put = put-has o p put
  result-has (Err x) o p put = tt

-- ---- of the index
module _ (index : Index) (services_by_address : List (AddressValue × BTreeSet Key)) (at : AddressValue) (key : Key) where
  abbrev with_recorders : Index
  with_recorders = record { services_by_address = services_by_address; servers_by_address = index.servers_by_address; slices = index.slices }

  -- by the order that the code compares by
  put-services_by_address : {A E : Type 0} (r : Result A E) → OnOk r (IsPut derived.cmp-value.it key_cmp index.services_by_address services_by_address at key)
      → OnOk r (IsPut address_cmp key_cmp index.services_by_address services_by_address at key)
  put-services_by_address {A} {E} r put =
      subst (λ (R : AddressValue → AddressValue → Ordering). OnOk r (IsPut R key_cmp index.services_by_address services_by_address at key)) address_cmp-is put

  pub recorder-grows : {A E : Type 0} (r : Result A E) → OnOk r (IsPut derived.cmp-value.it key_cmp index.services_by_address services_by_address at key)
      → OnErr r (services_by_address ≡ index.services_by_address) → Grows index with_recorders
  recorder-grows r put same = record {
    services_by_address = result-keeps address_cmp key_cmp index.services_by_address services_by_address at key r (put-services_by_address r put) same;
    slices = λ service k e. e;
    servers = λ a k e. e;
  }

  pub recorder-has : {A E : Type 0} (r : Result A E) → OnOk r (IsPut derived.cmp-value.it key_cmp index.services_by_address services_by_address at key)
      → OnOk r (is_recorder with_recorders at key ≡ true)
  recorder-has r put =
      result-has address_cmp key_cmp index.services_by_address services_by_address at key r address_total key_cmp-total (put-services_by_address r put)

  pub recorder-taken : IsTaken derived.cmp-value.it key_cmp index.services_by_address services_by_address at key
      → (a : AddressValue) (k : Key) → is_recorder with_recorders a k ≡ (not (same_address at a && same_key key k) && is_recorder index a k)
  recorder-taken taken a k =
      let by : IsTaken address_cmp key_cmp index.services_by_address services_by_address at key =
      subst (λ (R : AddressValue → AddressValue → Ordering). IsTaken R key_cmp index.services_by_address services_by_address at key) address_cmp-is taken in
      ap (λ f. f a k) by ∙ (λ i. not (same-at at a i && is_eq-key_cmp key k i) && is_recorder index a k)

module _ (index : Index) (servers : List (AddressValue × BTreeSet Key)) (at : AddressValue) (key : Key) where
  abbrev with_servers : Index
  with_servers = record { services_by_address = index.services_by_address; servers_by_address = servers; slices = index.slices }

  -- by the order that the code compares by
  put-servers : {A E : Type 0} (r : Result A E) → OnOk r (IsPut derived.cmp-value.it key_cmp index.servers_by_address servers at key)
      → OnOk r (IsPut address_cmp key_cmp index.servers_by_address servers at key)
  put-servers {A} {E} r put =
      subst (λ (R : AddressValue → AddressValue → Ordering). OnOk r (IsPut R key_cmp index.servers_by_address servers at key)) address_cmp-is put

  pub server-grows : {A E : Type 0} (r : Result A E) → OnOk r (IsPut derived.cmp-value.it key_cmp index.servers_by_address servers at key)
      → OnErr r (servers ≡ index.servers_by_address) → Grows index with_servers
  server-grows r put same = record {
    services_by_address = λ a k e. e;
    slices = λ service k e. e;
    servers = result-keeps address_cmp key_cmp index.servers_by_address servers at key r (put-servers r put) same;
  }

  pub server-has : {A E : Type 0} (r : Result A E) → OnOk r (IsPut derived.cmp-value.it key_cmp index.servers_by_address servers at key)
      → OnOk r (is_server with_servers at key ≡ true)
  server-has r put = result-has address_cmp key_cmp index.servers_by_address servers at key r address_total key_cmp-total (put-servers r put)

  pub server-taken : IsTaken derived.cmp-value.it key_cmp index.servers_by_address servers at key
      → (a : AddressValue) (k : Key) → is_server with_servers a k ≡ (not (same_address at a && same_key key k) && is_server index a k)
  server-taken taken a k =
      let by : IsTaken address_cmp key_cmp index.servers_by_address servers at key =
      subst (λ (R : AddressValue → AddressValue → Ordering). IsTaken R key_cmp index.servers_by_address servers at key) address_cmp-is taken in
      ap (λ f. f a k) by ∙ (λ i. not (same-at at a i && is_eq-key_cmp key k i) && is_server index a k)

module _ (index : Index) (slices : List (Key × BTreeSet Key)) (service key : Key) where
  abbrev with_slices : Index
  with_slices = record { services_by_address = index.services_by_address; servers_by_address = index.servers_by_address; slices = slices }

  pub slice-grows : {A E : Type 0} (r : Result A E) → OnOk r (IsPut key_cmp key_cmp index.slices slices service key) → OnErr r (slices ≡ index.slices)
      → Grows index with_slices
  slice-grows r put same = record {
    services_by_address = λ a k e. e;
    slices = result-keeps key_cmp key_cmp index.slices slices service key r put same;
    servers = λ a k e. e;
  }

  pub slice-has : {A E : Type 0} (r : Result A E) → OnOk r (IsPut key_cmp key_cmp index.slices slices service key)
      → OnOk r (is_slice with_slices service key ≡ true)
  slice-has r put = result-has key_cmp key_cmp index.slices slices service key r key_cmp-total key_cmp-total put

  pub slice-taken : IsTaken key_cmp key_cmp index.slices slices service key
      → (s k : Key) → is_slice with_slices s k ≡ (not (same_key service s && same_key key k) && is_slice index s k)
  slice-taken taken s k = ap (λ f. f s k) taken ∙ (λ i. not (is_eq-key_cmp service s i && is_eq-key_cmp key k i) && is_slice index s k)

-- what stands under an address
pub under-address : (index : Index) (a : AddressValue) (found : Option (BTreeSet Key))
    → found ≡ lookup (is_at (derived.cmp-value.it a)) index.services_by_address → (key : Key) → is_in key_cmp found key ≡ is_recorder index a key
under-address index a found is key =
    ap (λ keys. is_in key_cmp keys key)
    (is ∙ ap (λ (R : AddressValue → AddressValue → Ordering). lookup (is_at (R a)) index.services_by_address) address_cmp-is)

pub server-at-address : (index : Index) (a : AddressValue) (found : Option (BTreeSet Key))
    → found ≡ lookup (is_at (derived.cmp-value.it a)) index.servers_by_address → (key : Key) → is_in key_cmp found key ≡ is_server index a key
server-at-address index a found is key =
    ap (λ keys. is_in key_cmp keys key)
    (is ∙ ap (λ (R : AddressValue → AddressValue → Ordering). lookup (is_at (R a)) index.servers_by_address) address_cmp-is)

-- what serves a node has a usable endpoint
serves-ready : (policy : Policy) (node : List ℕ) (endpoints : List Endpoint) → list_any (serves_from policy node) endpoints ≡ true
    → list_any (λ endpoint. endpoint.usable) endpoints ≡ true
serves-ready policy node =
    any-implies (serves_from policy node) (λ endpoint. endpoint.usable)
    (λ (endpoint : Endpoint) e. (and_parts endpoint.usable (reaches policy node endpoint.node) e).0)

-- ---- whether an endpoint slice of a service serves
module _ (index : Index) (held : Cached) (covers : Covers index held) (ascend : IsStrictlySortedBy key_cmp (keys_of held.slices)) (key : Key) (policy : Policy)
    (node : List ℕ) where
  abbrev serves : EndpointSlice → Bool
  serves slice = slice_serves key policy node slice

  among-slices : (found : Option (BTreeSet Key)) → found ≡ lookup (is_at (key_cmp key)) index.slices
      → (at : Key) (slice : EndpointSlice) → object_at key_cmp held.slices at ≡ Some slice → serves slice ≡ true → is_in key_cmp found at ≡ true
  among-slices found is at slice there passed =
      let parts = and_parts (is_slice_of key slice) (list_any (serves_from policy node) slice.endpoints) passed in
      let same : service_of slice ≡ key = same_key-is (service_of slice) key parts.0 in
      let stands : is_slice index key at ≡ true = subst (λ (k : Key). is_slice index k at ≡ true) same (covers.slices at slice there (serves-ready policy node slice.endpoints parts.1)) in
      ap (λ keys. is_in key_cmp keys at) is ∙ stands

  pub serves-some : (answer : Bool) (keys : BTreeSet Key) → answer ≡ list_any (λ at. passes serves (object_at key_cmp held.slices at)) keys.keys
      → Some keys ≡ lookup (is_at (key_cmp key)) index.slices
      → answer ≡ some_serves (objects_of held.slices) key policy node
  serves-some answer keys is there = is ∙ any-keys key_cmp-total key_cmp-exact serves held.slices keys.keys ascend (among-slices (Some keys) there)

  pub serves-none : None ≡ lookup (is_at (key_cmp key)) index.slices → false ≡ some_serves (objects_of held.slices) key policy node
  serves-none none =
      any-keys key_cmp-total key_cmp-exact serves held.slices [] ascend
      (λ at slice there passed. among-slices None none at slice there passed)

-- ---- the services that record an address
module _ (index : Index) (v : ViewValue) (covers : Covers index v.held) (ascend : IsStrictlySortedBy key_cmp (keys_of v.held.services)) (a : AddressValue) where
  -- of a test that passes at no others
  module _ (test : Service → Bool) (records : (service : Service) → test service ≡ true → has_address service.holding.addresses a ≡ true) where
    among-services_by_address : (found : Option (BTreeSet Key)) → ((key : Key) → is_in key_cmp found key ≡ is_recorder index a key)
        → (at : Key) (service : Service) → object_at key_cmp v.held.services at ≡ Some service → test service ≡ true → is_in key_cmp found at ≡ true
    among-services_by_address found is at service there passed = is at ∙ covers.services_by_address at service there a (records service passed)

    found-some : (answer : Bool) (keys : BTreeSet Key) → answer ≡ list_any (λ at. passes test (object_at key_cmp v.held.services at)) keys.keys
        → ((key : Key) → contains key_cmp keys key ≡ is_recorder index a key) → answer ≡ list_any test (objects_of v.held.services)
    found-some answer keys is there =
        is ∙ any-keys key_cmp-total key_cmp-exact test v.held.services keys.keys ascend (among-services_by_address (Some keys) there)

    found-none : ((key : Key) → false ≡ is_recorder index a key) → false ≡ list_any test (objects_of v.held.services)
    found-none none = any-keys key_cmp-total key_cmp-exact test v.held.services [] ascend
        (λ at service there passed. among-services_by_address None none at service there passed)

  -- whether there is one
  pub recorded-some : (answer : Bool) (keys : BTreeSet Key) → answer ≡ list_any (λ at. records_in (object_at key_cmp v.held.services at) a) keys.keys
      → ((key : Key) → contains key_cmp keys key ≡ is_recorder index a key) → answer ≡ is_recorded_in v a
  recorded-some = found-some (λ (s : Service). has_address s.holding.addresses a) (λ s e. e)

  pub recorded-none : ((key : Key) → false ≡ is_recorder index a key) → false ≡ is_recorded_in v a
  recorded-none = found-none (λ (s : Service). has_address s.holding.addresses a) (λ s e. e)

-- ---- the services that record an address and have a usable endpoint
module _ (index : Index) (v : ViewValue) (covers : Covers index v.held) (ascend : IsStrictlySortedBy key_cmp (keys_of v.held.services))
    (ascend_slices : IsStrictlySortedBy key_cmp (keys_of v.held.slices)) (a : AddressValue) where
  -- of a test that passes at no others
  module _ (test : Service → Bool) (records : (service : Service) → test service ≡ true → has_address service.holding.addresses a ≡ true)
      (usable : (service : Service) → test service ≡ true → has_usable v service ≡ true) where
    among-servers : (found : Option (BTreeSet Key)) → ((key : Key) → is_in key_cmp found key ≡ is_server index a key)
        → (at : Key) (service : Service) → object_at key_cmp v.held.services at ≡ Some service → test service ≡ true → is_in key_cmp found at ≡ true
    among-servers found is at service there passed =
        let p = passing key_cmp-total key_cmp-exact (slice_serves service.key Cluster []) v.held.slices ascend_slices (usable service passed) in
        let slice : EndpointSlice = p.object in
        let parts = and_parts (is_slice_of service.key slice) (list_any (serves_from Cluster []) slice.endpoints) p.passed in
        let of : service_of slice ≡ at = same_key-is (service_of slice) service.key parts.0 ∙ covers.own at service there in
        is at ∙ covers.servers at service there p.key slice p.held (serves-ready Cluster [] slice.endpoints parts.1) of a (records service passed)

    server-some : (answer : Bool) (keys : BTreeSet Key) → answer ≡ list_any (λ at. passes test (object_at key_cmp v.held.services at)) keys.keys
        → ((key : Key) → contains key_cmp keys key ≡ is_server index a key) → answer ≡ list_any test (objects_of v.held.services)
    server-some answer keys is there =
        is ∙ any-keys key_cmp-total key_cmp-exact test v.held.services keys.keys ascend (among-servers (Some keys) there)

    server-none : ((key : Key) → false ≡ is_server index a key) → false ≡ list_any test (objects_of v.held.services)
    server-none none = any-keys key_cmp-total key_cmp-exact test v.held.services [] ascend
        (λ at service there passed. among-servers None none at service there passed)

  -- whether there is one
  abbrev served : Service → Bool
  served service = has_address service.holding.addresses a && has_usable v service

  served-records : (service : Service) → served service ≡ true → has_address service.holding.addresses a ≡ true
  served-records service e = (and_parts (has_address service.holding.addresses a) (has_usable v service) e).0

  served-usable : (service : Service) → served service ≡ true → has_usable v service ≡ true
  served-usable service e = (and_parts (has_address service.holding.addresses a) (has_usable v service) e).1

  pub served-some : (answer : Bool) (keys : BTreeSet Key) → answer ≡ list_any (λ at. passes served (object_at key_cmp v.held.services at)) keys.keys
      → ((key : Key) → contains key_cmp keys key ≡ is_server index a key) → answer ≡ is_served_in v a
  served-some = server-some served served-records served-usable

  pub served-none : ((key : Key) → false ≡ is_server index a key) → false ≡ is_served_in v a
  served-none = server-none served served-records served-usable

  -- whether one can be announced
  module _ (node : List ℕ) where
    abbrev announces : Service → Bool
    announces service = has_address service.holding.addresses a && can_announce v service node

    announces-records : (service : Service) → announces service ≡ true → has_address service.holding.addresses a ≡ true
    announces-records service e = (and_parts (has_address service.holding.addresses a) (can_announce v service node) e).0

    announces-usable : (service : Service) → announces service ≡ true → has_usable v service ≡ true
    announces-usable service e =
        let can = (and_parts (has_address service.holding.addresses a) (can_announce v service node) e).1 in
        let more = (and_parts (is_handled v.class service && endpoint_for v service node) (allows_balancers (node_labels v node)) can).0 in
        endpoint-usable v node service (and_parts (is_handled v.class service) (endpoint_for v service node) more).1

    pub announces-some : (answer : Bool) (keys : BTreeSet Key) → answer ≡ list_any (λ at. passes announces (object_at key_cmp v.held.services at)) keys.keys
        → ((key : Key) → contains key_cmp keys key ≡ is_server index a key) → answer ≡ announced_from v a node
    announces-some = server-some announces announces-records announces-usable

    pub announces-none : ((key : Key) → false ≡ is_server index a key) → false ≡ announced_from v a node
    announces-none = server-none announces announces-records announces-usable

-- ---- the recorded addresses
key-by : (b more : Bool) (here there : Option (BTreeSet Key)) (key : Key) → is_in key_cmp (cond b here there) key ≡ true
    → (is_in key_cmp there key ≡ true → more ≡ true) → (b || more) ≡ true
key-by true more here there key stands later = refl
key-by false more here there key stands later = later stands

stands-address : (entries : List (AddressValue × BTreeSet Key)) (a : AddressValue) (key : Key) → in_group address_cmp key_cmp entries a key ≡ true
    → list_any (is_at (address_cmp a)) (keys_of entries) ≡ true
stands-address [] a key e = absurd (true≢false (sym e))
stands-address (d ∷ entries) a key e =
    key-by (is_at (address_cmp a) d.0) (list_any (is_at (address_cmp a)) (keys_of entries)) (Some d.1) (lookup (is_at (address_cmp a)) entries) key e
    (stands-address entries a key)

has-recorded : (index : Index) (v : ViewValue) → Covers index v.held → IsStrictlySortedBy key_cmp (keys_of v.held.services)
    → (a : AddressValue) → is_recorded_in v a ≡ true → has_address (keys_of index.services_by_address) a ≡ true
has-recorded index v covers ascend a e =
    let p = passing key_cmp-total key_cmp-exact (λ (service : Service). has_address service.holding.addresses a) v.held.services ascend e in
    sym (found-has (keys_of index.services_by_address) a)
    ∙ stands-address index.services_by_address a p.key (covers.services_by_address p.key p.object p.held a p.passed)

-- each recorded address stands in the index
pub known-recorded : (index : Index) (v : ViewValue) → Covers index v.held → IsStrictlySortedBy key_cmp (keys_of v.held.services)
    → (addresses : List AddressValue) → addresses ≡ keys_of index.services_by_address
    → (a : AddressValue) → is_recorded_in v a ≡ true → Contains addresses a
known-recorded index v covers ascend addresses are a e =
    has_address-is addresses a (ap (λ (all : List AddressValue). has_address all a) are ∙ has-recorded index v covers ascend a e)

any-flat_map : {X A : Type 0} (test : A → Bool) (f : X → List A) (xs : List X) → list_any test (flat_map f xs) ≡ list_any (λ x. list_any test (f x)) xs
any-flat_map test f [] = refl
any-flat_map test f (x ∷ xs) = list_any-append test (f x) (flat_map f xs) ∙ ap (λ b. list_any test (f x) || b) (any-flat_map test f xs)

found-where : (b c : Bool) → (b ≡ true → c ≡ true) → (b && c) ≡ b
found-where true c there = there refl
found-where false c there = refl

-- the recorded addresses are those that a service records
has-recorded_in : (v : ViewValue) (a : AddressValue) → has_address (recorded_addresses v) a ≡ is_recorded_in v a
has-recorded_in v a =
    has-distinct (flat_map (λ (service : Service). service.holding.addresses) (objects_of v.held.services)) a
    ∙ any-flat_map (same_address a) (λ (service : Service). service.holding.addresses) (objects_of v.held.services)

pub has-recorded_addresses : (v : ViewValue) (a : AddressValue) → is_recorded_in v a ≡ true → Contains (recorded_addresses v) a
has-recorded_addresses v a e = has_address-is (recorded_addresses v) a (has-recorded_in v a ∙ e)

-- those of the addresses of the index that are recorded are all that are
pub all-recorded : (index : Index) (v : ViewValue) → Covers index v.held → IsStrictlySortedBy key_cmp (keys_of v.held.services)
    → (addresses : List AddressValue) → addresses ≡ keys_of index.services_by_address
    → keys_with address_cmp [] (filter (is_recorded_in v) addresses) ≡ recorded_addresses v
all-recorded index v covers ascend addresses are =
    let recorded = flat_map (λ (service : Service). service.holding.addresses) (objects_of v.held.services) in
    let passing = filter (is_recorded_in v) addresses in
    ascending-same (keys_with address_cmp [] passing) (recorded_addresses v)
    (ascending-distinct passing) (ascending-distinct recorded)
    (λ a.
    has-distinct passing a
    ∙ any-filter_same (same_address a) (is_recorded_in v) (is_recorded_in v a) (λ k e. ap (is_recorded_in v) (sym (same_address-is a k e))) addresses
    ∙ found-where (is_recorded_in v a) (has_address addresses a)
    (λ e. ap (λ (all : List AddressValue). has_address all a) are ∙ has-recorded index v covers ascend a e)
    ∙ sym (has-recorded_in v a))

pub found-by : FoundByIndex
found-by index v covers ascend a node keys is =
    found-some index v covers ascend a (λ (s : Service). has_address s.holding.addresses a && can_announce v s node)
    (λ (service : Service) e. (and_parts (has_address service.holding.addresses a) (can_announce v service node) e).0) (announces_among v a node keys.keys)
    keys refl is
