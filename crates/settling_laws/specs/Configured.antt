-- What a core holds of the configuration, and what it is still going to be shown of it, leads to what is stored; and services are served by that.
use Rattle.std.specs.Prelude.{◌≡◌, ◌↔◌, ◌⊎◌, ℕ, false, List, [], ◌∷◌, Option, Some, IfSome, Ok, Err}
use Rattle.std.specs.Option.{option_map}
use Rattle.kube_model.specs.declared.config_fault.ConfigFault.{ConfigFault}
use Rattle.kube_model.specs.declared.event.Event.{Event}
use Rattle.kube_model.specs.declared.key.Key.{Key}
use Rattle.kube_model.specs.declared.namespace.Namespace.{Namespace}
use Rattle.kube_model.specs.declared.object.Object.TheVariants as objects
use Rattle.kube_model.specs.declared.service.Service.{Service}
use Rattle.kube_model.specs.Keys.{has_key}
use Rattle.versioned_map.specs.declared.map.Versioned.{Versioned}
use Rattle.versioned_map.specs.Objects.{held_at, object_at}
use Rattle.pool_config.specs.declared.object_set.ObjectSet.{ObjectSet}
use Rattle.pool_config.specs.ConfigValue.{ConfigValue}
use Rattle.object_history.specs.Kinds.{Resource, pool_resource, l2_resource, bgp_resource, peer_resource, community_resource, namespace_resource}
use Rattle.object_history.specs.Observations.{Observation, Watched}
use Rattle.object_history.specs.LookBack.{seen_after, last_shown, IsInForce}
use Rattle.claim_index.specs.Claims.{holders}
use Rattle.status_store.specs.declared.stored.Stored.{Stored}
use Rattle.status_store.specs.Changes.{StoreValue}
use Rattle.status_store.specs.Objects.{IsStored}
use Rattle.status_store.specs.Places.{service_at}
use Rattle.core_rules.specs.Core.{State, labels_of}
use Rattle.core_rules.specs.Run.{TranscriptEntry, IsRun, core_after, observed}
use Rattle.core_laws.specs.Puts.{labels_shown}
use Rattle.core_laws.specs.Quiet.{MeetsRow}
use Rattle.world_rules.specs.declared.step.Step.{Step}
use Rattle.world_rules.specs.Good.{IsGood, IsGoodStore}
use Rattle.world_rules.specs.World.{WorldValue, started, world_step}
use Rattle.settling_laws.specs.Clear.{recorded}
use Rattle.settling_laws.specs.StoredConfig.{stored_in, objects_in, config_in, labels_in, offer_by}

-- ---- what is pending
module _ {K T : Type 0} (resource : Resource K T) where
  -- what is held of the key once these events are taken, where this is held of it before
  abbrev pub held_behind : K → List Event → Option (Versioned T) → Option (Versioned T)
  held_behind key [] held = held
  held_behind key (event ∷ more) held = held_behind key more (seen_after resource key (Watched event) held)

  -- all that is held and pending of the kind leads to what is stored of it, key by key and at its version
  abbrev pub LeadsTo : StoreValue → List (K × Versioned T) → List Event → Type 0
  LeadsTo store entries lane = (key : K) → held_behind key lane (held_at resource.cmp entries key) ≡ held_at resource.cmp (stored_in resource store) key

-- So it is of each kind of the configuration, and of namespaces. A controller holds no nodes, which are in the same list.
pub record ConfigLeads (store : StoreValue) (held : ObjectSet) (spaces : List (List ℕ × Versioned Namespace)) (lane : List Event) : Type 0 where
  pub pools : LeadsTo pool_resource store held.pools lane
  pub l2s : LeadsTo l2_resource store held.l2s lane
  pub bgps : LeadsTo bgp_resource store held.bgps lane
  pub peers : LeadsTo peer_resource store held.peers lane
  pub communities : LeadsTo community_resource store held.communities lane
  pub namespaces : LeadsTo namespace_resource store spaces lane

-- while the controller is up
abbrev pub HasConfigCopies : WorldValue → Type 0
HasConfigCopies w = IfSome w.core (λ s. ConfigLeads w.store s.held.objects s.held.namespaces w.config_lane)

-- so it is of a controller that was just started
abbrev pub StartsHaveConfigCopies : Type 0
StartsHaveConfigCopies = (class : Option (List ℕ)) (store : StoreValue) → IsGoodStore store → HasConfigCopies (started class store)

-- and after each step
abbrev pub StepsKeepConfigCopies : Type 0
StepsKeepConfigCopies = (w : WorldValue) (step : Step) → IsGood w → HasConfigCopies w → HasConfigCopies (world_step step w)

-- ---- what services are served by
-- The configuration that services are served by: the one that the stored objects compile to; where these have a fault, the one that was accepted last.
abbrev pub IsServing : StoreValue → (ConfigValue → Type 0) → ConfigValue → Type 0
IsServing store IsLast config = (config_in store ≡ Ok config) ⊎ ((fault : ConfigFault) × (config_in store ≡ Err fault) × IsLast config)

-- What is held of the configuration is what is stored of it, each object at its version, and what the stored objects compile to is in force; where these have
-- a fault, what was accepted last is, however the core came to be so. Each stored service that awaits nothing has the record that is chosen for it by that
-- configuration and the stored labels of its namespace, and where none could be chosen, none can be now.
pub record IsConfigured (w : WorldValue) (s : State) : Type 0 where
  pub objects_held : s.held.objects ≡ objects_in w.store
  pub namespaces_held : s.held.namespaces ≡ stored_in namespace_resource w.store
  pub labels_held : (name : List ℕ) → labels_of s.held name ≡ labels_in w.store name
  pub in_force : (config : ConfigValue) → config_in w.store ≡ Ok config → s.held.config ≡ Some config
  pub accepted_last : (run : List TranscriptEntry) → IsRun w.class run → core_after w.class run ≡ s
      → (config : ConfigValue) → (s.held.config ≡ Some config) ↔ IsInForce config (observed run)
  pub served : (config : ConfigValue) → IsServing w.store (λ last. s.held.config ≡ Some last) config → (key : Key) (service : Service) (stored : Stored)
      → IsStored w.store.objects (service_at key) stored → stored.object ≡ objects.Service service → has_key s.awaiting key ≡ false
      → MeetsRow s.class (offer_by config w.store) (holders s.claims) service

-- Besides, what is chosen for each is so by what is stored for all: nothing of it is the core's.
pub record IsConfiguredAsStored (w : WorldValue) (s : State) : Type 0 where
  pub configured : IsConfigured w s
  pub served : (config : ConfigValue) → IsServing w.store (λ last. s.held.config ≡ Some last) config → (key : Key) (service : Service) (stored : Stored)
      → IsStored w.store.objects (service_at key) stored → stored.object ≡ objects.Service service
      → MeetsRow s.class (offer_by config w.store) (recorded w.store) service

-- ---- by the look back
-- of each key of the kind, the object last shown is the one that is stored, whatever its version
abbrev pub ShowsAsStored : {K T : Type 0} → Resource K T → StoreValue → List Observation → Type 0
ShowsAsStored {K} {T} resource store observations =
    (key : K) → option_map (λ held. held.object) (last_shown resource key observations) ≡ object_at resource.cmp (stored_in resource store) key

-- What was last shown of the configuration, and of each namespace's labels, is what is stored.
pub record ShowsStored (store : StoreValue) (observations : List Observation) : Type 0 where
  pub pools : ShowsAsStored pool_resource store observations
  pub l2s : ShowsAsStored l2_resource store observations
  pub bgps : ShowsAsStored bgp_resource store observations
  pub peers : ShowsAsStored peer_resource store observations
  pub communities : ShowsAsStored community_resource store observations
  pub labels : (name : List ℕ) → labels_shown name observations ≡ labels_in store name
