-- What every world keeps.
use Rattle.std.specs.Prelude.{◌≡◌, false, true, Bool, ◌⊎◌, ◌≢◌, ℕ, if◌then◌else◌, List, [], ◌∷◌, ◌++◌, Option, None, IfSome, ⊤}
use Rattle.std.specs.Option.{option_map}
use Rattle.std.specs.List.{AllByRecursion}
use Rattle.kube_model.specs.declared.event.Event.{Event}
use Rattle.kube_model.specs.declared.event.Event.TheVariants.{Changed, Deleted, ListEnd, Expired, Members, Frame, Ignored}
use Rattle.kube_model.specs.declared.event.ListGroup.{ListGroup}
use Rattle.kube_model.specs.declared.event.ListGroup.TheVariants as groups
use Rattle.kube_model.specs.declared.key.Key.{Key}
use Rattle.kube_model.specs.declared.object.Kind.{Kind}
use Rattle.kube_model.specs.declared.object.Kind.TheVariants as kinds
use Rattle.kube_model.specs.declared.object.Object.{Object}
use Rattle.kube_model.specs.declared.object.Object.TheVariants as objects
use Rattle.kube_model.specs.declared.service.Service.{Service}
use Rattle.kube_model.specs.Keys.{key_cmp, same_key}
use Rattle.kube_model.specs.Kinds.{kind_of, group_of}
use Rattle.versioned_map.specs.declared.map.Versioned.{Versioned}
use Rattle.versioned_map.specs.Objects.{held_at}
use Rattle.status_store.specs.declared.stored.Stored.{Stored}
use Rattle.status_store.specs.Places.{service_at}
use Rattle.status_store.specs.Objects.{stored_at}
use Rattle.status_store.specs.Changes.{StoreValue, IsWellFormed, record_of}
use Rattle.claim_index.specs.Claims.{records_of}
use Rattle.core_rules.specs.Core.{State}
use Rattle.core_rules.specs.Run.{TranscriptEntry, core_after, IsRun}
use Rattle.core_laws.specs.Shared.{AllShowTerms}
use Rattle.world_rules.specs.Tracked.{Shown, Notice, Shows, Gone, End, IsTracked}
use Rattle.world_rules.specs.Safe.{IsSafe, HasTerms}
use Rattle.world_rules.specs.World.{WorldValue}

-- ---- a world, for one service

-- what is stored, by its version and its record
abbrev pub stored_as : Stored → Shown
stored_as held = record { version = held.version; holding = record_of held.object }

-- what is stored of the service
abbrev pub stored_of : StoreValue → Key → Option Shown
stored_of store key = option_map stored_as (stored_at store.objects (service_at key))

-- what is held, by its version and its record
abbrev pub held_as : Versioned Service → Shown
held_as held = record { version = held.version; holding = held.object.holding }

-- what the core holds of the service
abbrev pub held_of : State → Key → Option Shown
held_of s key = option_map held_as (held_at key_cmp s.held.services key)

-- what showing an object is for the service
abbrev pub notices_shown : Key → ℕ → Object → List Notice
notices_shown key version (objects.Service service) =
    if same_key service.key key then Shows (record { version = version; holding = service.holding }) ∷ [] else []
notices_shown key version (objects.Pool pool) = []
notices_shown key version (objects.L2 adv) = []
notices_shown key version (objects.Bgp adv) = []
notices_shown key version (objects.Peer peer) = []
notices_shown key version (objects.Community community) = []
notices_shown key version (objects.Namespace namespace) = []
notices_shown key version (objects.Node node) = []
notices_shown key version (objects.Slice slice) = []

-- what a deletion is
abbrev pub notices_deleted : Key → Kind → Key → List Notice
notices_deleted key kinds.Service other = if same_key other key then Gone ∷ [] else []
notices_deleted key kinds.Pool other = []
notices_deleted key kinds.L2 other = []
notices_deleted key kinds.Bgp other = []
notices_deleted key kinds.Peer other = []
notices_deleted key kinds.Community other = []
notices_deleted key kinds.Namespace other = []
notices_deleted key kinds.Node other = []
notices_deleted key kinds.Slice other = []

-- what the end of a list is
abbrev pub notices_ended : ListGroup → List Notice
notices_ended groups.Service = End ∷ []
notices_ended groups.Config = []
notices_ended groups.Endpoint = []

-- what an event is for the service
abbrev pub notices_of : Key → Event → List Notice
notices_of key (Changed version object) = notices_shown key version object
notices_of key (Deleted kind other) = notices_deleted key kind other
notices_of key (ListEnd group) = notices_ended group
notices_of key Expired = []
notices_of key (Members names) = []
notices_of key (Frame interface bytes) = []
notices_of key Ignored = []

-- what is still to be shown of the service
abbrev pub notices_in : Key → List Event → List Notice
notices_in key [] = []
notices_in key (event ∷ more) = notices_of key event ++ notices_in key more

-- the service is followed
abbrev pub IsTrackedIn : WorldValue → State → Key → Type 0
IsTrackedIn w s key =
    IsTracked w.store.counter s.held.services_ended (stored_of w.store key) (held_of s key) (records_of key s.claims) (notices_in key w.service_lane)

-- ---- what is pending

-- the event is of the list of the group
abbrev pub IsOfGroup : ListGroup → Event → Type 0
IsOfGroup group (Changed version object) = group_of (kind_of object) ≡ group
IsOfGroup group (Deleted kind key) = group_of kind ≡ group
IsOfGroup group (ListEnd g) = g ≡ group
IsOfGroup group Expired = ⊥
IsOfGroup group (Members names) = ⊥
IsOfGroup group (Frame interface bytes) = ⊥
IsOfGroup group Ignored = ⊥

-- the list of the configuration ends
abbrev pub ends_config : Event
ends_config = ListEnd groups.Config

-- none of the events ends it
abbrev pub NoneEnds : List Event → Type 0
NoneEnds lane = AllByRecursion (λ event. event ≢ ends_config) lane

-- one of the events ends it, and one only
abbrev pub OneEnds : List Event → Type 0
OneEnds [] = ⊥
OneEnds (event ∷ more) = ((event ≡ ends_config) × NoneEnds more) ⊎ ((event ≢ ends_config) × OneEnds more)

-- its end is still to come, once, exactly where it hasn't come
abbrev pub ConfigEnds : Bool → List Event → Type 0
ConfigEnds true lane = NoneEnds lane
ConfigEnds false lane = OneEnds lane

-- a service that the event shows has terms that there can be
abbrev pub ShowsTerms : Event → Type 0
ShowsTerms (Changed version object) = HasTerms object
ShowsTerms (Deleted kind key) = ⊤
ShowsTerms (ListEnd group) = ⊤
ShowsTerms Expired = ⊤
ShowsTerms (Members names) = ⊤
ShowsTerms (Frame interface bytes) = ⊤
ShowsTerms Ignored = ⊤

-- ---- what is kept

-- What holds while the controller is up: some run leads to its core, which has no put out and was shown terms that there can be; its lane
-- has events of the services alone; and each service is followed. Nothing is asked of what it is shown of the configuration.
pub record IsFollowed (w : WorldValue) (s : State) : Type 0 where
  pub run : List TranscriptEntry
  pub is : IsRun w.class run
  pub leads : core_after w.class run ≡ s
  pub typed : AllShowTerms run
  pub none_out : s.out ≡ None
  pub services : AllByRecursion (IsOfGroup groups.Service) w.service_lane
  pub tracked : (key : Key) → IsTrackedIn w s key

-- The store is safe, in its order and with its versions.
pub record IsGoodStore (store : StoreValue) : Type 0 where
  pub safe : IsSafe store
  pub kept : IsWellFormed store

-- What holds of every world.
pub record IsGood (w : WorldValue) : Type 0 where
  pub stored : IsGoodStore w.store
  pub up : IfSome w.core (IsFollowed w)

-- What holds besides of a world that makes steps: what is stored and pending has terms, and the lane of the configuration has events of
-- its own alone, and the end of its list once until it is taken.
pub record IsOwn (w : WorldValue) : Type 0 where
  pub stored_typed : AllByRecursion (λ held. HasTerms held.object) w.store.objects
  pub pending_typed : AllByRecursion ShowsTerms w.service_lane
  pub config : AllByRecursion (IsOfGroup groups.Config) w.config_lane
  pub config_ends : IfSome w.core (λ s. ConfigEnds s.held.config_ended w.config_lane)
