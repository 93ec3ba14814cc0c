-- What was last shown, by looking back over what was observed. The newest stands first.
use Rattle.std.specs.Prelude.{◌≡◌, ◌↔◌, ℕ, ◌<◌, Bool, true, false, ◌==◌, ◌||◌, ◌&&◌, nat_lt, if◌then◌else◌, List, [], ◌∷◌, ◌++◌, Option, Some, None, Ok, ⊤}
use Rattle.std.specs.Option.{option_map_or, option_map}
use Rattle.std.specs.Ordering.{is_eq}
use Rattle.std.specs.Map.{keys_of}
use Rattle.std.specs.List.Sorted.{IsStrictlySortedBy}
use Rattle.kube_model.specs.declared.event.Event.{Event}
use Rattle.kube_model.specs.declared.event.Event.TheVariants.{Changed, Deleted, ListEnd, Expired, Members, Frame, Ignored}
use Rattle.kube_model.specs.declared.event.ListGroup.{ListGroup}
use Rattle.kube_model.specs.declared.event.ListGroup.TheVariants as groups
use Rattle.kube_model.specs.declared.object.Object.{Object}
use Rattle.kube_model.specs.declared.object.Object.TheVariants as objects
use Rattle.versioned_map.specs.declared.map.Versioned.{Versioned}
use Rattle.versioned_map.specs.Objects.{at_version, held_at}
use Rattle.pool_config.specs.ConfigValue.{ConfigValue}
use Rattle.pool_config.specs.declared.object_set.ObjectSet.{ObjectSet}
use Rattle.pool_config.specs.Compile.{compiled}
use Rattle.object_history.specs.Kinds.{Resource, pool_resource, l2_resource, bgp_resource, peer_resource, community_resource}
use Rattle.object_history.specs.Observations.{Observation, Watched, WatchExpired, Written, same_group, is_config_kind}

-- the event says that all watches have expired
abbrev pub event_expires : Event → Bool
event_expires Expired = true
event_expires (Changed version object) = false
event_expires (Deleted kind key) = false
event_expires (ListEnd g) = false
event_expires (Members names) = false
event_expires (Frame interface bytes) = false
event_expires Ignored = false

-- the observation says that the watch of the group has expired
abbrev pub expires : ListGroup → Observation → Bool
expires group (Watched event) = event_expires event
expires group (WatchExpired g) = same_group g group
expires group (Written key version holding) = false

-- the event is the end of the group's list
abbrev pub event_ends_list : ListGroup → Event → Bool
event_ends_list group (ListEnd g) = same_group g group
event_ends_list group (Changed version object) = false
event_ends_list group (Deleted kind key) = false
event_ends_list group Expired = false
event_ends_list group (Members names) = false
event_ends_list group (Frame interface bytes) = false
event_ends_list group Ignored = false

-- so is the observation
abbrev pub ends_list : ListGroup → Observation → Bool
ends_list group (Watched event) = event_ends_list group event
ends_list group (WatchExpired g) = false
ends_list group (Written key version holding) = false

module _ {K T : Type 0} (resource : Resource K T) (key : K) where
  -- the object at this version, where it is the one of the key
  abbrev pub of_key : ℕ → Option (K × T) → Option (Versioned T)
  of_key version None = None
  of_key version (Some p) = if is_eq (resource.cmp key p.0) then Some (record { version = version; object = p.1 }) else None

  -- the object of the key that the event shows, with its version
  abbrev pub event_object : Event → Option (Versioned T)
  event_object (Changed version object) = of_key version (resource.shown object)
  event_object (Deleted kind gone) = None
  event_object (ListEnd group) = None
  event_object Expired = None
  event_object (Members names) = None
  event_object (Frame interface bytes) = None
  event_object Ignored = None

  -- the object of the key that the observation shows, with its version
  abbrev pub object_in : Observation → Option (Versioned T)
  object_in (Watched event) = event_object event
  object_in (WatchExpired group) = None
  object_in (Written k version holding) = None

  -- it is the key
  abbrev pub names_key : Option K → Bool
  names_key None = false
  names_key (Some gone) = is_eq (resource.cmp gone key)

  -- the event deletes the key
  abbrev pub event_deletes : Event → Bool
  event_deletes (Deleted kind gone) = names_key (resource.deleted kind gone)
  event_deletes (Changed version object) = false
  event_deletes (ListEnd group) = false
  event_deletes Expired = false
  event_deletes (Members names) = false
  event_deletes (Frame interface bytes) = false
  event_deletes Ignored = false

  -- so does the observation
  abbrev pub deletes_key : Observation → Bool
  deletes_key (Watched event) = event_deletes event
  deletes_key (WatchExpired group) = false
  deletes_key (Written k version holding) = false

  -- what a written record makes of the object of the key, with the version that this made it, where it is of the key
  abbrev pub record_for : ℕ → Option (K × (T → T)) → Option (ℕ × (T → T))
  record_for version None = None
  record_for version (Some p) = if is_eq (resource.cmp p.0 key) then Some (version, p.1) else None

  -- what the observation, as a written record, makes of the object of the key
  abbrev pub record_in : Observation → Option (ℕ × (T → T))
  record_in (Watched event) = None
  record_in (WatchExpired group) = None
  record_in (Written k version holding) = record_for version (resource.recorded k holding)

  -- the object with a written record
  abbrev pub written_over : Option (ℕ × (T → T)) → Versioned T → Versioned T
  written_over None held = held
  written_over (Some p) held = record { version = p.0; object = p.1 held.object }

  -- the object after an observation that leaves it held: a watch that expired makes its version 0, a written record changes it
  abbrev pub held_on : Observation → Versioned T → Versioned T
  held_on observation held =
      if expires resource.group observation then at_version 0 held else written_over (record_in observation) held

  -- the object after all of the later observations, where they leave it held
  abbrev pub held_through : List Observation → Versioned T → Versioned T
  held_through [] held = held
  held_through (observation ∷ later) held = held_on observation (held_through later held)

  -- its version, and 0 for none
  abbrev pub version_of : Option (Versioned T) → ℕ
  version_of seen = option_map_or (λ held. held.version) seen 0

  -- an object is shown, at a greater version
  abbrev pub newer_than : ℕ → Option (Versioned T) → Bool
  newer_than before None = false
  newer_than before (Some object) = nat_lt before object.version

  -- what was last shown of the key, after one observation more
  abbrev pub seen_after : Observation → Option (Versioned T) → Option (Versioned T)
  seen_after observation before =
      if newer_than (version_of before) (object_in observation) then object_in observation else
      (if deletes_key observation || (ends_list resource.group observation && (version_of before == 0)) then None else
      option_map (held_on observation) before)

  -- the object of the key as it was last shown, at the version last shown; none where the key isn't held. `IsLastShown` says what
  -- it is; this finds it.
  abbrev pub last_shown : List Observation → Option (Versioned T)
  last_shown [] = None
  last_shown (observation ∷ earlier) = seen_after observation (last_shown earlier)

  -- the version last shown of the key, and 0 where the key isn't held
  abbrev pub version_last_shown : List Observation → ℕ
  version_last_shown earlier = version_of (last_shown earlier)

  -- the observation shows a newer object of the key, or deletes the key, or ends the list that didn't show it
  abbrev pub replaces : List Observation → Observation → Bool
  replaces earlier observation =
      newer_than (version_last_shown earlier) (object_in observation)
      || (deletes_key observation || (ends_list resource.group observation && (version_last_shown earlier == 0)))

  -- none of the later observations does so
  abbrev pub NoneReplaces : List Observation → List Observation → Type 0
  NoneReplaces [] earlier = ⊤
  NoneReplaces (observation ∷ later) earlier = (replaces (later ++ earlier) observation ≡ false) × NoneReplaces later earlier

  -- The object is held as it was last shown: by an event that was newer than the version last shown before it, with no later newer
  -- event and no later deletion; since then expired watches and written records alone changed it.
  pub record IsLastShown (held : Versioned T) (observations : List Observation) : Type 0 where
    pub later : List Observation
    pub event : Event
    pub earlier : List Observation
    pub object : Versioned T
    pub split : observations ≡ later ++ Watched event ∷ earlier
    pub shown : event_object event ≡ Some object
    pub newer : version_last_shown earlier < object.version
    pub kept : NoneReplaces later (Watched event ∷ earlier)
    pub held_is : held ≡ held_through later object

-- what is held of the key is what was last shown of it
abbrev pub HoldsShown : {K T : Type 0} → Resource K T → List (K × Versioned T) → List Observation → K → Type 0
HoldsShown {K} {T} resource entries observations key =
    (held : Versioned T) → (held_at resource.cmp entries key ≡ Some held) ↔ IsLastShown resource key held observations

-- The entries are those of the keys that are held, each once by ascending key, as they were last shown.
pub record AreAsShown {K T : Type 0} (resource : Resource K T) (entries : List (K × Versioned T)) (observations : List Observation) : Type 0 where
  pub ascend : IsStrictlySortedBy resource.cmp (keys_of entries)
  pub each : (key : K) → HoldsShown resource entries observations key

-- none of the observations says that the watch of the group has expired
abbrev pub NoneExpires : ListGroup → List Observation → Type 0
NoneExpires group [] = ⊤
NoneExpires group (observation ∷ later) = (expires group observation ≡ false) × NoneExpires group later

-- The list of the group has ended, and its watch hasn't expired since.
pub record HasEnded (group : ListGroup) (observations : List Observation) : Type 0 where
  pub later : List Observation
  pub earlier : List Observation
  pub split : observations ≡ later ++ Watched (ListEnd group) ∷ earlier
  pub lasts : NoneExpires group later

-- The configuration's objects are as they were last shown.
pub record IsSetAsShown (held : ObjectSet) (observations : List Observation) : Type 0 where
  pub pools : AreAsShown pool_resource held.pools observations
  pub l2s : AreAsShown l2_resource held.l2s observations
  pub bgps : AreAsShown bgp_resource held.bgps observations
  pub peers : AreAsShown peer_resource held.peers observations
  pub communities : AreAsShown community_resource held.communities observations

-- it is an object of the configuration, newer than it was last shown
abbrev pub IsNewerConfig : List Observation → ℕ → Object → Type 0
IsNewerConfig earlier version (objects.Pool pool) = version_last_shown pool_resource pool.name earlier < version
IsNewerConfig earlier version (objects.L2 adv) = version_last_shown l2_resource adv.name earlier < version
IsNewerConfig earlier version (objects.Bgp adv) = version_last_shown bgp_resource adv.name earlier < version
IsNewerConfig earlier version (objects.Peer peer) = version_last_shown peer_resource peer.name earlier < version
IsNewerConfig earlier version (objects.Community community) = version_last_shown community_resource community.name earlier < version
IsNewerConfig earlier version (objects.Service service) = ⊥
IsNewerConfig earlier version (objects.Namespace namespace) = ⊥
IsNewerConfig earlier version (objects.Node node) = ⊥
IsNewerConfig earlier version (objects.Slice slice) = ⊥

-- The event has the configuration compiled: it ends its list, also once more, or it shows a newer one of its objects, or deletes one,
-- held or not, while the list is ended.
abbrev pub EventCompiles : List Observation → Event → Type 0
EventCompiles earlier (Changed version object) = IsNewerConfig earlier version object × HasEnded groups.Config earlier
EventCompiles earlier (Deleted kind key) = (is_config_kind kind ≡ true) × HasEnded groups.Config earlier
EventCompiles earlier (ListEnd group) = group ≡ groups.Config
EventCompiles earlier Expired = ⊥
EventCompiles earlier (Members names) = ⊥
EventCompiles earlier (Frame interface bytes) = ⊥
EventCompiles earlier Ignored = ⊥

-- so has the observation
abbrev pub Compiles : List Observation → Observation → Type 0
Compiles earlier (Watched event) = EventCompiles earlier event
Compiles earlier (WatchExpired group) = ⊥
Compiles earlier (Written key version holding) = ⊥

-- The observation has a configuration compiled, of the objects as they are shown then, and this is what is accepted.
pub record IsAccepted (config : ConfigValue) (observation : Observation) (earlier : List Observation) : Type 0 where
  pub compiles : Compiles earlier observation
  pub held : ObjectSet
  pub shown : IsSetAsShown held (observation ∷ earlier)
  pub accepted : compiled held ≡ Ok config

-- at none of the later observations is a configuration accepted
abbrev pub NoneAccepted : List Observation → List Observation → Type 0
NoneAccepted [] earlier = ⊤
NoneAccepted (observation ∷ later) earlier =
    ((config : ConfigValue) → IsAccepted config observation (later ++ earlier) → ⊥) × NoneAccepted later earlier

-- The configuration is the one that was last accepted.
pub record IsInForce (config : ConfigValue) (observations : List Observation) : Type 0 where
  pub later : List Observation
  pub observation : Observation
  pub earlier : List Observation
  pub split : observations ≡ later ++ observation ∷ earlier
  pub accepted : IsAccepted config observation earlier
  pub lasts : NoneAccepted later (observation ∷ earlier)
