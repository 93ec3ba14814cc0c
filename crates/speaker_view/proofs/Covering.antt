-- An event leaves what is held covered, where the object that it shows was added.
use Rattle.std.proofs.Common.{◌≡◌, ℕ, Bool, true, false, cond, not, leb, eqb, ◌&&◌, List, Option, Some, None, option_map, is_eq, refl, sym, ap, subst, ◌∙◌}
use Rattle.std.proofs.Common.{◌⊎◌, inl, inr}
use Rattle.std.proofs.lemmas.Bool.{and_from, true≢false}
use Rattle.std.proofs.lemmas.Map.Entries.{option_filter}
use Rattle.std.proofs.lemmas.Map.Lookups.{CmpEqualImpliesEq}
use Rattle.std.specs.Cmp.{IsTotalOrder, Equal-is}
use Rattle.std.specs.List.Sorted.{IsStrictlySortedBy}
use Rattle.std.specs.Map.{keys_of}
use Rattle.ip_ranges.specs.Values.{AddressValue, same_address}
use Rattle.ip_ranges.proofs.AddressLaws.{same_address-is}
use Rattle.kube_model.proofs.KeyLaws.{key_cmp-total, key_cmp-exact, same_key-is, same_key-itself}
use Rattle.kube_model.specs.Keys.{key_cmp, same_key}
use Rattle.kube_model.specs.declared.event.Event.{Event}
use Rattle.kube_model.specs.declared.event.Event.TheVariants.{Changed, Deleted, ListEnd, Expired, Members, Frame, Ignored}
use Rattle.kube_model.specs.declared.key.Key.{Key}
use Rattle.kube_model.specs.declared.object.Object.{Object}
use Rattle.kube_model.specs.declared.object.Object.TheVariants as objects
use Rattle.kube_model.specs.declared.service.Service.{Service}
use Rattle.kube_model.specs.declared.slice.EndpointSlice.{EndpointSlice}
use Rattle.object_history.specs.Cache.{Cached, cached_after, deleted_in, held_after_event, nothing, shown_in}
use Rattle.object_history.specs.Kinds.{Resource, service_resource, slice_resource, show_service, show_slice}
use Rattle.object_history.specs.Observations.{Watched, same_group}
use Rattle.versioned_map.specs.declared.map.Versioned.{Versioned}
use Rattle.versioned_map.specs.Objects.{at_version, expired, held_at, listed, object_at, version_at}
use Rattle.versioned_map.proofs.HeldLaws.{held_at-shown, held_at-removed, held_at-expired, held_at-listed}
use Rattle.speaker_view.specs.declared.index.Index.{Index}
use Rattle.speaker_view.specs.Endpoints.{is_slice_of}
use Rattle.speaker_view.specs.Grouped.{service_of}
use Rattle.speaker_view.specs.Index.{Covers, Grows, HasObject, HasShown, HasSlice, IndexCoversOn, IsUnderAll, ServesAll, ServesIfReady}
use Rattle.speaker_view.specs.Index.{is_ready, is_ready_of, is_recorder, is_server, is_slice, records_in}

-- ---- what holds of each held object, and of the one that an event shows, holds of each afterwards
module _ {K T : Type 0} (resource : Resource K T) (o : IsTotalOrder resource.cmp) (exact : CmpEqualImpliesEq resource.cmp) (P : K → T → Type 0) where
  abbrev pub Each : List (K × Versioned T) → Type 0
  Each entries = (key : K) (object : T) → object_at resource.cmp entries key ≡ Some object → P key object

  -- of the object that is shown, if it is one of the kind
  abbrev pub OfOne : Option (K × T) → Type 0
  OfOne None = Unit {0}
  OfOne (Some p) = P p.0 p.1

  abbrev pub OfShown : Event → Type 0
  OfShown (Changed version object) = OfOne (resource.shown object)
  OfShown (Deleted kind key) = Unit {0}
  OfShown (ListEnd group) = Unit {0}
  OfShown Expired = Unit {0}
  OfShown (Members names) = Unit {0}
  OfShown (Frame interface bytes) = Unit {0}
  OfShown Ignored = Unit {0}

  abbrev object_in : Option (Versioned T) → Option T
  object_in held = option_map (λ h. h.object) held

  shown-by : (old same : Bool) (k key : K) (version : ℕ) (x object : T) (found : Option (Versioned T)) → (same ≡ true → key ≡ k) → P k x
      → object_in (cond old found (cond same (Some (record { version = version; object = x })) found)) ≡ Some object
      → (object_in found ≡ Some object → P key object) → P key object
  shown-by true same k key version x object found at new e each = each e
  shown-by false true k key version x object found at new e each =
      let is : x ≡ object = cc in
      subst (λ (q : K). P q object) (sym (at refl)) (subst (λ (y : T). P k y) is new)
  shown-by false false k key version x object found at new e each = each e

  shown-each : (p : Option (K × T)) (version : ℕ) (entries : List (K × Versioned T)) → OfOne p → Each entries → Each (shown_in resource p version entries)
  shown-each None version entries new each key object e = each key object e
  shown-each (Some p) version entries new each key object e =
      let held : Versioned T = record { version = version; object = p.1 } in
      shown-by (leb version (version_at resource.cmp entries p.0)) (is_eq (resource.cmp key p.0)) p.0 key version p.1 object (held_at resource.cmp entries key)
      (λ same. exact key p.0 ((Equal-is (resource.cmp key p.0)).0 same)) new
      (sym (ap object_in (held_at-shown o entries p.0 key version p.1)) ∙ e) (each key object)

  removed-by : (gone : Bool) (found : Option (Versioned T)) (object : T) → object_in (cond gone None found) ≡ Some object → object_in found ≡ Some object
  removed-by true found object e = absurd (cc)
  removed-by false found object e = e

  deleted-each : (gone : Option K) (entries : List (K × Versioned T)) → IsStrictlySortedBy resource.cmp (keys_of entries) → Each entries
      → Each (deleted_in resource gone entries)
  deleted-each None entries s each key object e = each key object e
  deleted-each (Some gone) entries s each key object e =
      each key object
      (removed-by (is_eq (resource.cmp gone key)) (held_at resource.cmp entries key) object (sym (ap object_in (held_at-removed o entries gone key s)) ∙ e))

  kept-by : (b : Bool) (held : Versioned T) (object : T) → object_in (cond b (Some held) None) ≡ Some object → held.object ≡ object
  kept-by true held object e = cc
  kept-by false held object e = absurd (cc)

  listed-by : (test : Versioned T → Bool) (found : Option (Versioned T)) (object : T) → object_in (option_filter test found) ≡ Some object
      → object_in found ≡ Some object
  listed-by test None object e = e
  listed-by test (Some held) object e = ap (λ (x : T). Some x) (kept-by (test held) held object e)

  listed-each : (b : Bool) (entries : List (K × Versioned T)) → IsStrictlySortedBy resource.cmp (keys_of entries) → Each entries
      → Each (cond b (listed entries) entries)
  listed-each true entries s each key object e =
      each key object
      (listed-by (λ held. not (eqb held.version 0)) (held_at resource.cmp entries key) object (sym (ap object_in (held_at-listed o entries key s)) ∙ e))
  listed-each false entries s each key object e = each key object e

  expired-by : (found : Option (Versioned T)) → object_in (option_map (at_version 0) found) ≡ object_in found
  expired-by None = refl
  expired-by (Some held) = refl

  expired-each : (entries : List (K × Versioned T)) → Each entries → Each (expired entries)
  expired-each entries each key object e =
      each key object (sym (ap object_in (held_at-expired resource.cmp entries key) ∙ expired-by (held_at resource.cmp entries key)) ∙ e)

  pub each-after : (event : Event) (entries : List (K × Versioned T)) → IsStrictlySortedBy resource.cmp (keys_of entries) → OfShown event → Each entries
      → Each (held_after_event resource event entries)
  each-after (Changed version object) entries s new each = shown-each (resource.shown object) version entries new each
  each-after (Deleted kind key) entries s new each = deleted-each (resource.deleted kind key) entries s each
  each-after (ListEnd group) entries s new each = listed-each (same_group group resource.group) entries s each
  each-after Expired entries s new each = expired-each entries each
  each-after (Members names) entries s new each = each
  each-after (Frame interface bytes) entries s new each = each
  each-after Ignored entries s new each = each

-- ---- of the services and of the endpoint slices
module _ (index : Index) (before : Cached) where
  abbrev UnderSlice : Key → EndpointSlice → Type 0
  UnderSlice key slice = is_ready slice ≡ true → is_slice index (service_of slice) key ≡ true

  -- among the services the slice's is one with a usable endpoint, if the slice has one
  abbrev IsServed : List (Key × Versioned Service) → Key → EndpointSlice → Type 0
  IsServed services at slice = is_ready slice ≡ true → (key : Key) (service : Service) → object_at key_cmp services key ≡ Some service
      → service_of slice ≡ key → ServesAll index key service

  abbrev OwnKey : Key → Service → Type 0
  OwnKey key service = service.key ≡ key

  of-service : (object : Object) → HasObject index before object → OfOne service_resource key_cmp-total key_cmp-exact (IsUnderAll index) (show_service object)
  of-service (objects.Service service) has = has.under
  of-service (objects.Slice slice) has = tt
  of-service (objects.Pool pool) has = tt
  of-service (objects.L2 adv) has = tt
  of-service (objects.Bgp adv) has = tt
  of-service (objects.Peer peer) has = tt
  of-service (objects.Community community) has = tt
  of-service (objects.Namespace namespace) has = tt
  of-service (objects.Node node) has = tt

  of-slice : (object : Object) → HasObject index before object → OfOne slice_resource key_cmp-total key_cmp-exact UnderSlice (show_slice object)
  of-slice (objects.Slice slice) has = λ ready. (has ready).there
  of-slice (objects.Service service) has = tt
  of-slice (objects.Pool pool) has = tt
  of-slice (objects.L2 adv) has = tt
  of-slice (objects.Bgp adv) has = tt
  of-slice (objects.Peer peer) has = tt
  of-slice (objects.Community community) has = tt
  of-slice (objects.Namespace namespace) has = tt
  of-slice (objects.Node node) has = tt

  of-server : (object : Object) → HasObject index before object
      → OfOne service_resource key_cmp-total key_cmp-exact (ServesIfReady index before.slices) (show_service object)
  of-server (objects.Service service) has = has.serves
  of-server (objects.Slice slice) has = tt
  of-server (objects.Pool pool) has = tt
  of-server (objects.L2 adv) has = tt
  of-server (objects.Bgp adv) has = tt
  of-server (objects.Peer peer) has = tt
  of-server (objects.Community community) has = tt
  of-server (objects.Namespace namespace) has = tt
  of-server (objects.Node node) has = tt

  served-as : (slice : EndpointSlice) → (is_ready slice ≡ true → HasSlice index before slice) → IsServed before.services slice.key slice
  served-as slice has ready key service there of =
      subst (λ (k : Key). ServesAll index k service) of ((has ready).serves service (ap (object_at key_cmp before.services) of ∙ there))

  of-own : (object : Object) → OfOne service_resource key_cmp-total key_cmp-exact OwnKey (show_service object)
  of-own (objects.Service service) = refl
  of-own (objects.Slice slice) = tt
  of-own (objects.Pool pool) = tt
  of-own (objects.L2 adv) = tt
  of-own (objects.Bgp adv) = tt
  of-own (objects.Peer peer) = tt
  of-own (objects.Community community) = tt
  of-own (objects.Namespace namespace) = tt
  of-own (objects.Node node) = tt

  shown-service : (event : Event) → HasShown index before event → OfShown service_resource key_cmp-total key_cmp-exact (IsUnderAll index) event
  shown-service (Changed version object) has = of-service object has
  shown-service (Deleted kind key) has = tt
  shown-service (ListEnd group) has = tt
  shown-service Expired has = tt
  shown-service (Members names) has = tt
  shown-service (Frame interface bytes) has = tt
  shown-service Ignored has = tt

  shown-slice : (event : Event) → HasShown index before event → OfShown slice_resource key_cmp-total key_cmp-exact UnderSlice event
  shown-slice (Changed version object) has = of-slice object has
  shown-slice (Deleted kind key) has = tt
  shown-slice (ListEnd group) has = tt
  shown-slice Expired has = tt
  shown-slice (Members names) has = tt
  shown-slice (Frame interface bytes) has = tt
  shown-slice Ignored has = tt

  shown-server : (event : Event) → HasShown index before event
      → OfShown service_resource key_cmp-total key_cmp-exact (ServesIfReady index before.slices) event
  shown-server (Changed version object) has = of-server object has
  shown-server (Deleted kind key) has = tt
  shown-server (ListEnd group) has = tt
  shown-server Expired has = tt
  shown-server (Members names) has = tt
  shown-server (Frame interface bytes) has = tt
  shown-server Ignored has = tt

  shown-served : (event : Event) → HasShown index before event
      → OfShown slice_resource key_cmp-total key_cmp-exact (IsServed (held_after_event service_resource event before.services)) event
  shown-served (Changed version (objects.Slice slice)) has = served-as slice has
  shown-served (Changed version (objects.Service service)) has = tt
  shown-served (Changed version (objects.Pool pool)) has = tt
  shown-served (Changed version (objects.L2 adv)) has = tt
  shown-served (Changed version (objects.Bgp adv)) has = tt
  shown-served (Changed version (objects.Peer peer)) has = tt
  shown-served (Changed version (objects.Community community)) has = tt
  shown-served (Changed version (objects.Namespace namespace)) has = tt
  shown-served (Changed version (objects.Node node)) has = tt
  shown-served (Deleted kind key) has = tt
  shown-served (ListEnd group) has = tt
  shown-served Expired has = tt
  shown-served (Members names) has = tt
  shown-served (Frame interface bytes) has = tt
  shown-served Ignored has = tt

  shown-own : (event : Event) → OfShown service_resource key_cmp-total key_cmp-exact OwnKey event
  shown-own (Changed version object) = of-own object
  shown-own (Deleted kind key) = tt
  shown-own (ListEnd group) = tt
  shown-own Expired = tt
  shown-own (Members names) = tt
  shown-own (Frame interface bytes) = tt
  shown-own Ignored = tt

  covers-after : (event : Event) → IsStrictlySortedBy key_cmp (keys_of before.services) → IsStrictlySortedBy key_cmp (keys_of before.slices)
      → HasShown index before event
      → Covers index before → Covers index (cached_after (Watched event) before)
  covers-after event services slices has covers =
      let after = held_after_event service_resource event before.services in
      let serve : Each service_resource key_cmp-total key_cmp-exact (ServesIfReady index before.slices) after =
      each-after service_resource key_cmp-total key_cmp-exact (ServesIfReady index before.slices) event before.services services (shown-server event has)
      covers.servers in
      let served : Each slice_resource key_cmp-total key_cmp-exact (IsServed after) (held_after_event slice_resource event before.slices) =
      each-after slice_resource key_cmp-total key_cmp-exact (IsServed after) event before.slices slices (shown-served event has)
      (λ at slice e ready key service there of. serve key service there at slice e ready of) in
      record {
        services_by_address = each-after service_resource key_cmp-total key_cmp-exact (IsUnderAll index) event before.services services
            (shown-service event has) covers.services_by_address;
        slices = each-after slice_resource key_cmp-total key_cmp-exact UnderSlice event before.slices slices (shown-slice event has) covers.slices;
        servers = λ key service there at slice e ready of. served at slice e ready key service there of;
        own = each-after service_resource key_cmp-total key_cmp-exact OwnKey event before.services services (shown-own event) covers.own;
      }

pub covers_after : IndexCoversOn
covers_after index held event services slices has covers = covers-after index held event services slices has covers

-- nothing held needs nothing
pub covers-nothing : (index : Index) → Covers index nothing
covers-nothing index = record {
  services_by_address = λ key service e. absurd (let wrong : None ≡ Some service = e in cc);
  slices = λ key slice e ready. absurd (let wrong : None ≡ Some slice = e in cc);
  servers = λ key service e. absurd (let wrong : None ≡ Some service = e in cc);
  own = λ key service e. absurd (let wrong : None ≡ Some service = e in cc);
}

-- ---- more keys
pub grows-itself : (index : Index) → Grows index index
grows-itself index = record { services_by_address = λ a key e. e; slices = λ service key e. e; servers = λ a key e. e }

pub grows-on : (a b c : Index) → Grows a b → Grows b c → Grows a c
grows-on a b c first then = record {
  services_by_address = λ x key e. then.services_by_address x key (first.services_by_address x key e);
  slices = λ service key e. then.slices service key (first.slices service key e);
  servers = λ x key e. then.servers x key (first.servers x key e);
}

pub covers-grown : (index index' : Index) (held : Cached) → Grows index index' → Covers index held → Covers index' held
covers-grown index index' held grows covers = record {
  services_by_address = λ key service e a has. grows.services_by_address a key (covers.services_by_address key service e a has);
  slices = λ key slice e ready. grows.slices (service_of slice) key (covers.slices key slice e ready);
  servers = λ key service there at slice e ready of a has. grows.servers a key (covers.servers key service there at slice e ready of a has);
  own = covers.own;
}

-- ---- fewer keys
fewer-by : (b c was : Bool) → (b ≡ true → c ≡ true → was ≡ true → ⊥) → was ≡ true → (not (b && c) && was) ≡ true
fewer-by true true was never e = absurd (never refl refl e)
fewer-by true false was never e = e
fewer-by false c was never e = e

module _ (index index' : Index) (held : Cached) (covers : Covers index held) where
  -- the key was taken out from under an address that its service doesn't record
  pub covers-less_recorders : (at : AddressValue) (gone : Key) → records_in (object_at key_cmp held.services gone) at ≡ false
      → ((a : AddressValue) (key : Key) → is_recorder index' a key ≡ (not (same_address at a && same_key gone key) && is_recorder index a key))
      → ((service key : Key) → is_slice index' service key ≡ is_slice index service key)
      → ((a : AddressValue) (key : Key) → is_server index' a key ≡ is_server index a key) → Covers index' held
  covers-less_recorders at gone unrecorded taken others same_servers = record {
    services_by_address = λ key service e a has.
        let was : is_recorder index a key ≡ true = covers.services_by_address key service e a has in
        taken a key
        ∙ fewer-by (same_address at a) (same_key gone key) (is_recorder index a key)
        (λ here same _.
        let is : records_in (object_at key_cmp held.services key) a ≡ true = ap (λ found. records_in found a) e ∙ has in
        let isnt : records_in (object_at key_cmp held.services key) a ≡ false =
        subst (λ (k : Key). records_in (object_at key_cmp held.services k) a ≡ false) (same_key-is gone key same)
        (subst (λ (x : AddressValue). records_in (object_at key_cmp held.services gone) x ≡ false) (same_address-is at a here) unrecorded) in
        let wrong : true ≡ false = sym is ∙ isnt in
        cc) was;
    slices = λ key slice e ready. others (service_of slice) key ∙ covers.slices key slice e ready;
    servers = λ key service there at slice e ready of a has. same_servers a key ∙ covers.servers key service there at slice e ready of a has;
    own = covers.own;
  }

  -- the key was taken out from under a service that its endpoint slice isn't of, or has no usable endpoint for
  pub covers-less_slices : (at gone : Key) → is_ready_of (object_at key_cmp held.slices gone) at ≡ false
      → ((service key : Key) → is_slice index' service key ≡ (not (same_key at service && same_key gone key) && is_slice index service key))
      → ((a : AddressValue) (key : Key) → is_recorder index' a key ≡ is_recorder index a key)
      → ((a : AddressValue) (key : Key) → is_server index' a key ≡ is_server index a key) → Covers index' held
  covers-less_slices at gone unlike taken others same_servers = record {
    services_by_address = λ key service e a has. others a key ∙ covers.services_by_address key service e a has;
    slices = λ key slice e ready.
        let was : is_slice index (service_of slice) key ≡ true = covers.slices key slice e ready in
        taken (service_of slice) key
        ∙ fewer-by (same_key at (service_of slice)) (same_key gone key) (is_slice index (service_of slice) key)
        (λ here same _.
        let is : (is_slice_of (service_of slice) slice && is_ready slice) ≡ true =
        and_from (is_slice_of (service_of slice) slice) (is_ready slice) (same_key-itself (service_of slice)) ready in
        let isnt : is_ready_of (object_at key_cmp held.slices key) (service_of slice) ≡ false =
        subst (λ (k : Key). is_ready_of (object_at key_cmp held.slices k) (service_of slice) ≡ false) (same_key-is gone key same)
        (subst (λ (x : Key). is_ready_of (object_at key_cmp held.slices gone) x ≡ false) (same_key-is at (service_of slice) here) unlike) in
        let wrong : true ≡ false = sym is ∙ sym (ap (λ found. is_ready_of found (service_of slice)) e) ∙ isnt in
        cc) was;
    servers = λ key service there at slice e ready of a has. same_servers a key ∙ covers.servers key service there at slice e ready of a has;
    own = covers.own;
  }

  -- the key was taken out from under an address as one of a service with a usable endpoint, where no service of it records the address or no slice
  -- stands under it
  pub covers-less_servers : (at : AddressValue) (gone : Key)
      → ((key : Key) → is_slice index gone key ≡ false) ⊎ (records_in (object_at key_cmp held.services gone) at ≡ false)
      → ((a : AddressValue) (key : Key) → is_server index' a key ≡ (not (same_address at a && same_key gone key) && is_server index a key))
      → ((a : AddressValue) (key : Key) → is_recorder index' a key ≡ is_recorder index a key)
      → ((service key : Key) → is_slice index' service key ≡ is_slice index service key) → Covers index' held
  covers-less_servers at gone why taken others slices = record {
    services_by_address = λ key service e a has. others a key ∙ covers.services_by_address key service e a has;
    slices = λ key slice e ready. slices (service_of slice) key ∙ covers.slices key slice e ready;
    servers = λ key service there place slice e ready of a has.
        let was : is_server index a key ≡ true = covers.servers key service there place slice e ready of a has in
        taken a key
        ∙ fewer-by (same_address at a) (same_key gone key) (is_server index a key)
        (λ here same _.
        let key_is : gone ≡ key = same_key-is gone key same in
        elim why [
          | inl none ↦ true≢false (sym (covers.slices place slice e ready) ∙ ap (λ (k : Key). is_slice index k place) (of ∙ sym key_is) ∙ none place)
          | inr unrecorded ↦ (
              let is : records_in (object_at key_cmp held.services key) a ≡ true = ap (λ found. records_in found a) there ∙ has in
              let isnt : records_in (object_at key_cmp held.services key) a ≡ false =
              subst (λ (k : Key). records_in (object_at key_cmp held.services k) a ≡ false) key_is
              (subst (λ (x : AddressValue). records_in (object_at key_cmp held.services gone) x ≡ false) (same_address-is at a here) unrecorded) in
              true≢false (sym is ∙ isnt))
        ]) was;
    own = covers.own;
  }
