-- Which services an event leaves as they were.
use Rattle.std.specs.Prelude.{◌≡◌, ℕ, Bool, true, false, ◌&&◌, List, ◌∷◌, map, filter}
use Rattle.std.specs.List.{list_any}
use Rattle.std.specs.Ordering.{is_eq}
use Rattle.kube_model.specs.declared.event.Event.{Event}
use Rattle.kube_model.specs.declared.event.Event.TheVariants.{Changed, Deleted, ListEnd, Expired, Members, Frame, Ignored}
use Rattle.kube_model.specs.declared.event.ListGroup.{ListGroup}
use Rattle.kube_model.specs.declared.event.ListGroup.TheVariants as groups
use Rattle.kube_model.specs.declared.key.Key.{Key}
use Rattle.kube_model.specs.declared.object.Kind.{Kind}
use Rattle.kube_model.specs.declared.object.Kind.TheVariants as kinds
use Rattle.kube_model.specs.declared.object.Object.{Object}
use Rattle.kube_model.specs.declared.object.Object.TheVariants as objects
use Rattle.kube_model.specs.declared.service.Service.{Service}
use Rattle.versioned_map.specs.declared.map.Versioned.{Versioned}
use Rattle.versioned_map.specs.Objects.{object_at, is_newer, unlisted_keys}
use Rattle.kube_model.specs.Keys.{key_cmp}
use Rattle.object_history.specs.Observations.{Observation, Watched}
use Rattle.object_history.specs.Cache.{Cached, cached}

-- the object is the service of the key, newer than what is held
abbrev pub shows_service : Cached → ℕ → Object → Key → Bool
shows_service s version (objects.Service service) key = is_newer key_cmp s.services service.key version && is_eq (key_cmp service.key key)
shows_service s version (objects.Pool pool) key = false
shows_service s version (objects.L2 adv) key = false
shows_service s version (objects.Bgp adv) key = false
shows_service s version (objects.Peer peer) key = false
shows_service s version (objects.Community community) key = false
shows_service s version (objects.Namespace namespace) key = false
shows_service s version (objects.Node node) key = false
shows_service s version (objects.Slice slice) key = false

-- the service of the key is the one that is deleted, held or not
abbrev pub deletes_service : Kind → Key → Key → Bool
deletes_service kinds.Service gone key = is_eq (key_cmp gone key)
deletes_service kinds.Pool gone key = false
deletes_service kinds.L2 gone key = false
deletes_service kinds.Bgp gone key = false
deletes_service kinds.Peer gone key = false
deletes_service kinds.Community gone key = false
deletes_service kinds.Namespace gone key = false
deletes_service kinds.Node gone key = false
deletes_service kinds.Slice gone key = false

-- the list of services ends without the service of the key
abbrev pub leaves_out : Cached → ListGroup → Key → Bool
leaves_out s groups.Service key = list_any (λ k. is_eq (key_cmp k key)) (unlisted_keys s.services)
leaves_out s groups.Config key = false
leaves_out s groups.Endpoint key = false

-- the event shows a newer service of the key or deletes it, or ends a list without it
abbrev pub changes_service : Cached → Event → Key → Bool
changes_service s (Changed version object) key = shows_service s version object key
changes_service s (Deleted kind gone) key = deletes_service kind gone key
changes_service s (ListEnd group) key = leaves_out s group key
changes_service s Expired key = false
changes_service s (Members names) key = false
changes_service s (Frame interface bytes) key = false
changes_service s Ignored key = false

-- whatever was observed, an event leaves each other service as it was
abbrev pub OtherServicesStay : Type 0
OtherServicesStay = (observations : List Observation) (event : Event) (key : Key) → changes_service (cached observations) event key ≡ false
    → object_at key_cmp (cached (Watched event ∷ observations)).services key ≡ object_at key_cmp (cached observations).services key

-- the keys of the services that pass
abbrev pub passing : (Key → Service → Bool) → List (Key × Versioned Service) → List Key
passing test entries = map (λ e. e.0) (filter (λ e. test e.0 e.1.object) entries)

-- no service that the event changes passes the test, whatever it is
abbrev pub NeverPasses : (Key → Service → Bool) → Cached → Event → Type 0
NeverPasses test s event = (key : Key) (service : Service) → changes_service s event key ≡ true → test key service ≡ false

-- whatever was observed, of the services that an event doesn't change the same pass as before it, in the same order
abbrev pub OthersPassAsBefore : Type 0
OthersPassAsBefore = (observations : List Observation) (event : Event) (test : Key → Service → Bool) → NeverPasses test (cached observations) event
    → passing test (cached (Watched event ∷ observations)).services ≡ passing test (cached observations).services
