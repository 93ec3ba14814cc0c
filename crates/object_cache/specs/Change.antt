-- What an event comes to.
use Rattle.std.specs.Prelude.{ℕ, Bool, true, false, if◌then◌else◌, Result, Ok, Err}
use Rattle.kube_model.specs.declared.config_fault.ConfigFault.{ConfigFault}
use Rattle.kube_model.specs.declared.event.Event.{Event}
use Rattle.kube_model.specs.declared.event.Event.TheVariants.{Changed, Deleted, ListEnd, Expired, Members, Frame, Ignored}
use Rattle.kube_model.specs.declared.event.ListGroup.{ListGroup}
use Rattle.kube_model.specs.declared.event.ListGroup.TheVariants as groups
use Rattle.kube_model.specs.declared.object.Kind.{Kind}
use Rattle.kube_model.specs.declared.object.Kind.TheVariants as kinds
use Rattle.kube_model.specs.declared.object.Object.{Object}
use Rattle.kube_model.specs.declared.object.Object.TheVariants as objects
use Rattle.versioned_map.specs.Objects.{is_newer}
use Rattle.pool_config.specs.ConfigValue.{ConfigValue}
use Rattle.pool_config.specs.declared.object_set.ObjectSet.{ObjectSet}
use Rattle.pool_config.specs.Compile.{compiled}
use Rattle.kube_labels.specs.Names.{name_cmp}
use Rattle.object_history.specs.Observations.{Watched}
use Rattle.object_history.specs.Cache.{Cached, in_force, objects_after, event_compiles}
use Rattle.object_cache.specs.declared.change.Applied.{Applied}
use Rattle.object_cache.specs.declared.change.TakeNote.{TakeNote}
use Rattle.object_cache.specs.declared.change.TakeNote.TheVariants.{Quiet, Accepted, Refused}

-- the object is a namespace, newer than what is held
abbrev pub shows_namespace : Cached → ℕ → Object → Bool
shows_namespace s version (objects.Namespace namespace) = is_newer name_cmp s.namespaces namespace.name version
shows_namespace s version (objects.Service service) = false
shows_namespace s version (objects.Pool pool) = false
shows_namespace s version (objects.L2 adv) = false
shows_namespace s version (objects.Bgp adv) = false
shows_namespace s version (objects.Peer peer) = false
shows_namespace s version (objects.Community community) = false
shows_namespace s version (objects.Node node) = false
shows_namespace s version (objects.Slice slice) = false

-- the kind is that of namespaces
abbrev pub is_namespace : Kind → Bool
is_namespace kinds.Namespace = true
is_namespace kinds.Service = false
is_namespace kinds.Pool = false
is_namespace kinds.L2 = false
is_namespace kinds.Bgp = false
is_namespace kinds.Peer = false
is_namespace kinds.Community = false
is_namespace kinds.Node = false
is_namespace kinds.Slice = false

-- a namespace is shown that is newer than what is held, or is deleted, held or not
abbrev pub changes_namespace : Cached → Event → Bool
changes_namespace s (Changed version object) = shows_namespace s version object
changes_namespace s (Deleted kind key) = is_namespace kind
changes_namespace s (ListEnd group) = false
changes_namespace s Expired = false
changes_namespace s (Members names) = false
changes_namespace s (Frame interface bytes) = false
changes_namespace s Ignored = false

-- what is to be told of a configuration that was compiled
abbrev pub note_in : Result ConfigValue ConfigFault → TakeNote
note_in (Ok config) = Accepted
note_in (Err fault) = Refused fault

-- what is to be told where the objects are these, and are compiled or not
abbrev pub note_of : Bool → ObjectSet → TakeNote
note_of compiles held = if compiles then note_in (compiled held) else Quiet

-- what an event comes to
abbrev pub applied : Cached → Event → Applied
applied s event = record {
  namespace_changed = changes_namespace s event;
  note = note_of (event_compiles s.objects s.config_ended event) (objects_after (Watched event) s.objects);
}

-- what an event of the configuration comes to, after which the objects are these, and are compiled or not
abbrev pub config_applied : Bool → ObjectSet → Applied
config_applied compiles held = record { namespace_changed = false; note = note_of compiles held }

-- the objects are these, and where they are compiled, an accepted configuration is in force
abbrev pub with_objects : Cached → Bool → ObjectSet → Cached
with_objects s compiles held = record s { objects = held; config = if compiles then in_force s.config (compiled held) else s.config }

-- whether the list of the group has ended, and its watch hasn't expired since
abbrev pub has_ended : Cached → ListGroup → Bool
has_ended s groups.Config = s.config_ended
has_ended s groups.Service = s.services_ended
has_ended s groups.Endpoint = s.endpoints_ended
