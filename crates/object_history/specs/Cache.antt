-- What is held of a cluster after all that was observed: kind by kind, list by list, one observation after the other.
use Rattle.std.specs.Prelude.{ℕ, Bool, false, ◌||◌, ◌&&◌, if◌then◌else◌, List, [], ◌∷◌, Option, Some, None, Result, Ok, Err}
use Rattle.std.specs.Map.{remove_entry}
use Rattle.std.specs.BTreeMap.{is_at}
use Rattle.kube_model.specs.declared.config_fault.ConfigFault.{ConfigFault}
use Rattle.kube_model.specs.declared.event.Event.{Event}
use Rattle.kube_model.specs.declared.event.Event.TheVariants.{Changed, Deleted, ListEnd, Expired, Members, Frame, Ignored}
use Rattle.kube_model.specs.declared.event.ListGroup.{ListGroup}
use Rattle.kube_model.specs.declared.event.ListGroup.TheVariants as groups
use Rattle.kube_model.specs.declared.key.Key.{Key}
use Rattle.kube_model.specs.declared.namespace.Namespace.{Namespace}
use Rattle.kube_model.specs.declared.node.Node.{Node}
use Rattle.kube_model.specs.declared.service.Service.{Service}
use Rattle.kube_model.specs.declared.slice.EndpointSlice.{EndpointSlice}
use Rattle.versioned_map.specs.declared.map.Versioned.{Versioned}
use Rattle.versioned_map.specs.Objects.{shown, expired, listed, amended}
use Rattle.pool_config.specs.ConfigValue.{ConfigValue}
use Rattle.pool_config.specs.declared.object_set.ObjectSet.{ObjectSet}
use Rattle.pool_config.specs.Compile.{compiled}
use Rattle.pool_config.specs.Objects.{no_objects, set_shows}
use Rattle.object_history.specs.Observations.{same_group, is_config_kind}
pub use Rattle.object_history.specs.Observations.{Observation, Watched, WatchExpired, Written}
use Rattle.object_history.specs.Kinds.{Resource, service_resource, pool_resource, l2_resource, bgp_resource, peer_resource}
use Rattle.object_history.specs.Kinds.{community_resource, namespace_resource, node_resource, slice_resource}

module _ {K T : Type 0} (resource : Resource K T) where
  -- an object of the kind is shown
  abbrev pub shown_in : Option (K × T) → ℕ → List (K × Versioned T) → List (K × Versioned T)
  shown_in None version entries = entries
  shown_in (Some p) version entries = shown resource.cmp entries p.0 version p.1

  -- a key of the kind is deleted
  abbrev pub deleted_in : Option K → List (K × Versioned T) → List (K × Versioned T)
  deleted_in None entries = entries
  deleted_in (Some key) entries = remove_entry (is_at (resource.cmp key)) entries

  -- a record of the kind is written
  abbrev pub written_in : Option (K × (T → T)) → ℕ → List (K × Versioned T) → List (K × Versioned T)
  written_in None version entries = entries
  written_in (Some p) version entries = amended resource.cmp entries p.0 version p.1

  -- A changed object whose version isn't greater than the held one is ignored; a deletion applies whatever its version;
  -- where the list ends, what is held at version 0 is dropped; where the watch has expired, every version is 0.
  abbrev pub held_after_event : Event → List (K × Versioned T) → List (K × Versioned T)
  held_after_event (Changed version object) entries = shown_in (resource.shown object) version entries
  held_after_event (Deleted kind key) entries = deleted_in (resource.deleted kind key) entries
  held_after_event (ListEnd group) entries = if same_group group resource.group then listed entries else entries
  held_after_event Expired entries = expired entries
  held_after_event (Members names) entries = entries
  held_after_event (Frame interface bytes) entries = entries
  held_after_event Ignored entries = entries

  -- what is held of the kind after an observation
  abbrev pub held_after : Observation → List (K × Versioned T) → List (K × Versioned T)
  held_after (Watched event) entries = held_after_event event entries
  held_after (WatchExpired group) entries = if same_group group resource.group then expired entries else entries
  held_after (Written key version holding) entries = written_in (resource.recorded key holding) version entries

-- all that is held
pub record Cached : Type 0 where
  pub services : List (Key × Versioned Service)  -- by key
  pub objects : ObjectSet  -- what the configuration is compiled from
  pub namespaces : List (List ℕ × Versioned Namespace)  -- by name
  pub nodes : List (List ℕ × Versioned Node)  -- by name
  pub slices : List (Key × Versioned EndpointSlice)  -- by key
  pub config : Option ConfigValue  -- the configuration in force
  pub config_ended : Bool  -- the list of the group `Config` has ended, and its watch hasn't expired since
  pub services_ended : Bool  -- so has that of `Service`
  pub endpoints_ended : Bool  -- so has that of `Endpoint`

-- nothing is held
abbrev pub nothing : Cached
nothing = record {
  services = [];
  objects = no_objects;
  namespaces = [];
  nodes = [];
  slices = [];
  config = None;
  config_ended = false;
  services_ended = false;
  endpoints_ended = false;
}

-- whether the list of the group has ended, after an event
abbrev pub ended_after_event : ListGroup → Event → Bool → Bool
ended_after_event group (Changed version object) before = before
ended_after_event group (Deleted kind key) before = before
ended_after_event group (ListEnd g) before = same_group g group || before
ended_after_event group Expired before = false
ended_after_event group (Members names) before = before
ended_after_event group (Frame interface bytes) before = before
ended_after_event group Ignored before = before

-- after an observation
abbrev pub ended_after : ListGroup → Observation → Bool → Bool
ended_after group (Watched event) before = ended_after_event group event before
ended_after group (WatchExpired g) before = if same_group g group then false else before
ended_after group (Written key version holding) before = before

-- the event has the configuration compiled: it ends its list, or it is one of its objects' and applies while the list is ended
abbrev pub event_compiles : ObjectSet → Bool → Event → Bool
event_compiles held ended (Changed version object) = set_shows held version object && ended
event_compiles held ended (Deleted kind key) = is_config_kind kind && ended
event_compiles held ended (ListEnd group) = same_group group groups.Config
event_compiles held ended Expired = false
event_compiles held ended (Members names) = false
event_compiles held ended (Frame interface bytes) = false
event_compiles held ended Ignored = false

-- so has the observation
abbrev pub compiles : ObjectSet → Bool → Observation → Bool
compiles held ended (Watched event) = event_compiles held ended event
compiles held ended (WatchExpired group) = false
compiles held ended (Written key version holding) = false

-- the objects of the configuration after an observation
abbrev pub objects_after : Observation → ObjectSet → ObjectSet
objects_after observation held = record {
  pools = held_after pool_resource observation held.pools;
  l2s = held_after l2_resource observation held.l2s;
  bgps = held_after bgp_resource observation held.bgps;
  peers = held_after peer_resource observation held.peers;
  communities = held_after community_resource observation held.communities;
}

-- an accepted configuration is in force; a refused one leaves the last one in force
abbrev pub in_force : Option ConfigValue → Result ConfigValue ConfigFault → Option ConfigValue
in_force before (Ok config) = Some config
in_force before (Err fault) = before

-- all that is held after an observation
abbrev pub cached_after : Observation → Cached → Cached
cached_after observation s = record {
  services = held_after service_resource observation s.services;
  objects = objects_after observation s.objects;
  namespaces = held_after namespace_resource observation s.namespaces;
  nodes = held_after node_resource observation s.nodes;
  slices = held_after slice_resource observation s.slices;
  config =
      if compiles s.objects s.config_ended observation then in_force s.config (compiled (objects_after observation s.objects))
      else s.config;
  config_ended = ended_after groups.Config observation s.config_ended;
  services_ended = ended_after groups.Service observation s.services_ended;
  endpoints_ended = ended_after groups.Endpoint observation s.endpoints_ended;
}

-- what is held after all that was observed, the newest first
abbrev pub cached : List Observation → Cached
cached [] = nothing
cached (observation ∷ earlier) = cached_after observation (cached earlier)
