-- How much is held at most, and which event would pass that.
use Rattle.std.specs.Prelude.{◌≡◌, ◌↔◌, ℕ, ◌<◌, ◌+◌, Bool, true, false, ◌&&◌, not, nat_lt, nat_le, is_some, List, [], ◌∷◌, length, Option, Some, None, ⊤}
use Rattle.std.specs.declared.cmp.Ordering.{Ordering}
use Rattle.kube_model.specs.declared.event.Event.{Event}
use Rattle.kube_model.specs.declared.event.Event.TheVariants.{Changed, Deleted, ListEnd, Expired, Members, Frame, Ignored}
use Rattle.kube_model.specs.declared.object.Kind.{Kind}
use Rattle.kube_model.specs.declared.object.Kind.TheVariants as kinds
use Rattle.kube_model.specs.declared.object.Object.{Object}
use Rattle.kube_model.specs.declared.object.Object.TheVariants as objects
use Rattle.kube_labels.specs.Names.{name_cmp}
use Rattle.kube_model.specs.Keys.{key_cmp}
use Rattle.versioned_map.specs.declared.map.Versioned.{Versioned}
use Rattle.versioned_map.specs.Objects.{held_at}
use Rattle.object_history.specs.Observations.{Observation, Watched, WatchExpired, Written}
use Rattle.object_history.specs.Cache.{Cached, cached}

-- the most services that are held
abbrev pub most_services : ℕ
most_services = 262144

-- the most nodes that are held
abbrev pub most_nodes : ℕ
most_nodes = 1024

-- as many as may be held are held, and this would be one more
abbrev pub passes : {K T : Type 0} → (K → K → Ordering) → ℕ → List (K × Versioned T) → K → ℕ → Bool
passes cmp most entries key version = nat_lt 0 version && nat_le most (length entries) && not (is_some (held_at cmp entries key))

-- the kind, and the first number past the most that are held of it
abbrev pub first_past : Kind → ℕ → Bool → Option (Kind × ℕ)
first_past kind most true = Some (kind, most + 1)
first_past kind most false = None

-- the limit that the object would pass where it is shown
abbrev pub object_limit : Cached → ℕ → Object → Option (Kind × ℕ)
object_limit s version (objects.Service service) = first_past kinds.Service most_services (passes key_cmp most_services s.services service.key version)
object_limit s version (objects.Node node) = first_past kinds.Node most_nodes (passes name_cmp most_nodes s.nodes node.name version)
object_limit s version (objects.Namespace namespace) = None
object_limit s version (objects.Pool pool) = None
object_limit s version (objects.L2 adv) = None
object_limit s version (objects.Bgp adv) = None
object_limit s version (objects.Peer peer) = None
object_limit s version (objects.Community community) = None
object_limit s version (objects.Slice slice) = None

-- the limit that the event would pass: the kind of which one more would be held than may be, and how many that were
abbrev pub limit_of : Cached → Event → Option (Kind × ℕ)
limit_of s (Changed version object) = object_limit s version object
limit_of s (Deleted kind key) = None
limit_of s (ListEnd group) = None
limit_of s Expired = None
limit_of s (Members names) = None
limit_of s (Frame interface bytes) = None
limit_of s Ignored = None

-- so many objects of a kind are held, of one that has a limit, and this is the limit
abbrev pub IsNumberHeld : Cached → Kind → ℕ → ℕ → Type 0
IsNumberHeld s kinds.Service most count = (most ≡ most_services) × (count ≡ length s.services)
IsNumberHeld s kinds.Node most count = (most ≡ most_nodes) × (count ≡ length s.nodes)
IsNumberHeld s kinds.Pool most count = ⊥
IsNumberHeld s kinds.L2 most count = ⊥
IsNumberHeld s kinds.Bgp most count = ⊥
IsNumberHeld s kinds.Peer most count = ⊥
IsNumberHeld s kinds.Community most count = ⊥
IsNumberHeld s kinds.Namespace most count = ⊥
IsNumberHeld s kinds.Slice most count = ⊥

-- this many objects of the kind are held, which is more than may be
abbrev pub IsPastLimit : Cached → Kind → ℕ → Type 0
IsPastLimit s kind count = (most : ℕ) × IsNumberHeld s kind most count × (most < count)

-- none of the events passed a limit where it was observed
abbrev pub NonePassed : List Observation → Type 0
NonePassed [] = ⊤
NonePassed (Watched event ∷ earlier) = (limit_of (cached earlier) event ≡ None) × NonePassed earlier
NonePassed (WatchExpired group ∷ earlier) = NonePassed earlier
NonePassed (Written key version holding ∷ earlier) = NonePassed earlier

-- whatever was observed and not refused, an event passes a limit exactly where more would be held after it than may be
abbrev pub LimitsAreExact : Type 0
LimitsAreExact = (observations : List Observation) (event : Event) (kind : Kind) (count : ℕ) → NonePassed observations
    → (limit_of (cached observations) event ≡ Some (kind, count)) ↔ IsPastLimit (cached (Watched event ∷ observations)) kind count
