-- What holds at each moment of a world whose controller is up, row by row: what is known of the store, and what is still to be shown.
use Rattle.std.specs.Prelude.{◌≡◌, ◌⊎◌, ℕ, ◌<◌, ◌≤◌, Bool, true, false, List, [], ◌∷◌, ◌++◌, Some, IfSome}
use Rattle.std.specs.List.{Contains}
use Rattle.kube_model.specs.declared.event.Event.{Event}
use Rattle.kube_model.specs.declared.event.Event.TheVariants.{Changed, Deleted, ListEnd}
use Rattle.kube_model.specs.declared.event.ListGroup.TheVariants as groups
use Rattle.kube_model.specs.declared.key.Key.{Key}
use Rattle.kube_model.specs.declared.object.Kind.TheVariants as kinds
use Rattle.kube_model.specs.declared.object.Object.TheVariants as objects
use Rattle.kube_model.specs.declared.record.Record.{Record}
use Rattle.kube_model.specs.declared.service.Service.{Service}
use Rattle.kube_model.specs.Keys.{key_cmp}
use Rattle.kube_model.specs.Records.{is_assigned}
use Rattle.world_rules.specs.Tracked.{is_given}
use Rattle.versioned_map.specs.declared.map.Versioned.{Versioned}
use Rattle.versioned_map.specs.Objects.{held_at}
use Rattle.status_store.specs.declared.stored.Stored.{Stored}
use Rattle.status_store.specs.Places.{service_at}
use Rattle.status_store.specs.Objects.{IsStored}
use Rattle.status_store.specs.Changes.{StoreValue, IsWellFormed, record_of}
use Rattle.claim_index.specs.Claims.{ClaimValue, claims_of, records_of}
use Rattle.core_rules.specs.Core.{State, is_ready}
use Rattle.core_laws.specs.Claimed.{IsClaimedAs}
use Rattle.core_laws.specs.Quiet.{IsQuiet}
use Rattle.world_rules.specs.Good.{ends_config}
use Rattle.world_rules.specs.Safe.{IsSafe, IsRecorded}
use Rattle.world_rules.specs.World.{WorldValue}

-- ---- words

-- the core holds this of the service
abbrev pub IsHeld : State → Key → Versioned Service → Type 0
IsHeld s key held = held_at key_cmp s.held.services key ≡ Some held

-- this is pending in the lane of the services, between these
abbrev pub IsPending : WorldValue → List Event → Event → List Event → Type 0
IsPending w before event behind = w.service_lane ≡ before ++ event ∷ behind

-- it is shown that the service is so
abbrev pub shows_service : ℕ → Service → Event
shows_service version service = Changed version (objects.Service service)

-- the service is deleted
abbrev pub deletes_service : Key → Event
deletes_service key = Deleted kinds.Service key

-- the list of the services ends
abbrev pub ends_services : Event
ends_services = ListEnd groups.Service

-- The version is newer than what is held of the service, which counts as held at version 0 where it isn't held.
abbrev pub IsNewer : State → Key → ℕ → Type 0
IsNewer s key version = (held : Versioned Service) → IsHeld s key held → held.version < version

-- the service isn't stored, or without an address
abbrev pub IsBareIn : StoreValue → Key → Type 0
IsBareIn store key = (r : Record) → IsRecorded store key r → is_given r ≡ false

-- the service is stored; and where it is with an address, it is with this record
abbrev pub IsAsShown : StoreValue → Key → Record → Type 0
IsAsShown store key r = (q : Record) × IsRecorded store key q × (is_given q ≡ true → r ≡ q)

-- A pending event that shows a service is live where it is going to be held: it is newer than what is held, or a deletion of the service
-- is pending before it.
abbrev pub IsLive : State → List Event → ℕ → Key → Type 0
IsLive s before version key = IsNewer s key version ⊎ Contains before (deletes_service key)

-- ---- the rows

-- Versions are at most the store's counter: stored, held and pending ones.
pub record AreCounted (w : WorldValue) (s : State) : Type 0 where
  pub stored : IsWellFormed w.store
  pub held : (key : Key) (held : Versioned Service) → IsHeld s key held → held.version ≤ w.store.counter
  pub pending : (before behind : List Event) (version : ℕ) (service : Service) → IsPending w before (shows_service version service) behind
      → version ≤ w.store.counter

-- once the list of services has ended: each stored record with an address is claimed for its service
abbrev pub StoredAreClaimed : WorldValue → State → Type 0
StoredAreClaimed w s =
    s.held.services_ended ≡ true → (key : Key) (r : Record) → IsRecorded w.store key r → is_given r ≡ true → Contains (records_of key s.claims) r

-- The record is going to be shown before the list of services ends, by an event newer than what is held.
pub record WillBeShown (w : WorldValue) (s : State) (key : Key) (r : Record) : Type 0 where
  pub before : List Event
  pub version : ℕ
  pub service : Service
  pub behind : List Event
  pub pending : IsPending w before (shows_service version service) behind
  pub of_key : service.key ≡ key
  pub with_record : service.holding ≡ r
  pub newer : IsNewer s key version
  pub before_end : Contains behind ends_services

-- until the list of services has ended: each stored record with an address is claimed, or going to be shown
abbrev pub StoredAreListed : WorldValue → State → Type 0
StoredAreListed w s =
    s.held.services_ended ≡ false → (key : Key) (r : Record) → IsRecorded w.store key r → is_given r ≡ true
    → Contains (records_of key s.claims) r ⊎ WillBeShown w s key r

-- What is held is what is stored, and neither a newer event nor a deletion is pending.
pub record IsCurrent (w : WorldValue) (s : State) (key : Key) (held : Versioned Service) (r : Record) : Type 0 where
  pub same : held.object.holding ≡ r
  pub none_newer : (before behind : List Event) (version : ℕ) (service : Service) → IsPending w before (shows_service version service) behind
      → service.key ≡ key → version ≤ held.version
  pub no_deletion : (before behind : List Event) → ¬ (IsPending w before (deletes_service key) behind)

-- what is held at the stored version is current
abbrev pub HeldAreCurrent : WorldValue → State → Type 0
HeldAreCurrent w s =
    (key : Key) (stored : Stored) (held : Versioned Service) → IsStored w.store.objects (service_at key) stored → IsHeld s key held
    → held.version ≡ stored.version → IsCurrent w s key held (record_of stored.object)

-- A live event shows the stored record, where that has an address; or a deletion of the service stands after it, and the service isn't
-- stored, or without an address.
pub record LiveAreStored (w : WorldValue) (s : State) : Type 0 where
  pub last : (before behind : List Event) (version : ℕ) (service : Service) → IsPending w before (shows_service version service) behind
      → IsLive s before version service.key → ¬ (Contains behind (deletes_service service.key)) → IsAsShown w.store service.key service.holding
  pub gone : (before behind : List Event) (version : ℕ) (service : Service) → IsPending w before (shows_service version service) behind
      → IsLive s before version service.key → Contains behind (deletes_service service.key) → IsBareIn w.store service.key

-- where a deletion is pending, the service isn't stored, or at a later version than is held and without an address
abbrev pub DeletedAreBare : WorldValue → State → Type 0
DeletedAreBare w s =
    (before behind : List Event) (key : Key) → IsPending w before (deletes_service key) behind
    → (stored : Stored) → IsStored w.store.objects (service_at key) stored → IsNewer s key stored.version × (is_given (record_of stored.object) ≡ false)

-- Each held record with an address is claimed for its service, where it is the mark of no terms under those of the held service; and only
-- held services have claims.
pub record HeldAreClaimed (s : State) : Type 0 where
  pub held : (key : Key) (held : Versioned Service) → IsHeld s key held → is_assigned held.object.holding ≡ true → IsClaimedAs s.claims key held.object
  pub claims : (key : Key) (c : ClaimValue) → Contains (claims_of key s.claims) c → (held : Versioned Service) × IsHeld s key held

-- Nothing is left waiting that could be served; and while the core isn't ready, nothing is queued.
pub record IsQuiescent (s : State) : Type 0 where
  pub quiet : IsQuiet s
  pub idle : is_ready s.held ≡ false → s.queue ≡ []

-- The versions that are pending of a stored service: they ascend, up to the stored one, which is the last where the service isn't held at
-- it; those with a deletion after them are less.
pub record AreInOrder (w : WorldValue) (s : State) : Type 0 where
  pub held : (key : Key) (stored : Stored) (held : Versioned Service) → IsStored w.store.objects (service_at key) stored → IsHeld s key held
      → held.version ≤ stored.version
  pub ascending : (before between behind : List Event) (first second : ℕ) (service other : Service) → service.key ≡ other.key
      → w.service_lane ≡ before ++ (shows_service first service ∷ (between ++ (shows_service second other ∷ behind))) → first < second
  pub stored : (before behind : List Event) (version : ℕ) (service : Service) (stored : Stored) → IsPending w before (shows_service version service) behind
      → IsStored w.store.objects (service_at service.key) stored → version ≤ stored.version
  pub deleted : (before behind : List Event) (version : ℕ) (service : Service) (stored : Stored) → IsPending w before (shows_service version service) behind
      → IsStored w.store.objects (service_at service.key) stored → Contains behind (deletes_service service.key) → version < stored.version

-- A stored service that isn't held at its version is going to be shown at it, and not deleted after that.
pub record WillBeShownAt (w : WorldValue) (key : Key) (version : ℕ) : Type 0 where
  pub before : List Event
  pub service : Service
  pub behind : List Event
  pub pending : IsPending w before (shows_service version service) behind
  pub of_key : service.key ≡ key
  pub stays : ¬ (Contains behind (deletes_service key))

abbrev pub UnheldAreShown : WorldValue → State → Type 0
UnheldAreShown w s =
    (key : Key) (stored : Stored) → IsStored w.store.objects (service_at key) stored
    → ((held : Versioned Service) × IsHeld s key held × (held.version ≡ stored.version)) ⊎ WillBeShownAt w key stored.version

-- The end of a list is pending exactly where the list hasn't ended, and then once.
pub record EndsOnceIn (end : Event) (ended : Bool) (lane : List Event) : Type 0 where
  pub pending : ended ≡ false → Contains lane end
  pub none : ended ≡ true → ¬ (Contains lane end)
  pub once : (before behind : List Event) → lane ≡ before ++ end ∷ behind → ¬ (Contains behind end)

-- the end of the list of the configuration is so, while the controller is up
abbrev pub ConfigEndsOnce : WorldValue → Type 0
ConfigEndsOnce w = IfSome w.core (λ s. EndsOnceIn ends_config s.held.config_ended w.config_lane)

-- The service is going to be shown before the list of services ends.
pub record WillBeListed (w : WorldValue) (key : Key) : Type 0 where
  pub before : List Event
  pub version : ℕ
  pub service : Service
  pub behind : List Event
  pub pending : IsPending w before (shows_service version service) behind
  pub of_key : service.key ≡ key
  pub before_end : Contains behind ends_services

-- A service that wasn't listed since its watch expired, until the list of services has ended: it isn't stored; or it is going to be shown
-- before the list ends; or it is stored without an address, and is going to be shown so.
abbrev pub UnlistedAreShown : WorldValue → State → Type 0
UnlistedAreShown w s =
    s.held.services_ended ≡ false → (key : Key) (held : Versioned Service) → IsHeld s key held → held.version ≡ 0
    → (stored : Stored) → IsStored w.store.objects (service_at key) stored
    → WillBeListed w key ⊎ ((is_given (record_of stored.object) ≡ false) × WillBeShownAt w key stored.version)

-- All rows but that of the list of the configuration.
pub record IsInOrder (w : WorldValue) (s : State) : Type 0 where
  pub safe : IsSafe w.store
  pub counted : AreCounted w s
  pub stored_claimed : StoredAreClaimed w s
  pub stored_listed : StoredAreListed w s
  pub current : HeldAreCurrent w s
  pub live : LiveAreStored w s
  pub deleted : DeletedAreBare w s
  pub held_claimed : HeldAreClaimed s
  pub quiescent : IsQuiescent s
  pub ordered : AreInOrder w s
  pub unheld : UnheldAreShown w s
  pub ends : EndsOnceIn ends_services s.held.services_ended w.service_lane
  pub unlisted : UnlistedAreShown w s
