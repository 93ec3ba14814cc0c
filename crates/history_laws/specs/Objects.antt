-- The objects of the histories: one pool of two addresses, and services of one port.
use Rattle.std.specs.Prelude.{ℕ, [], ◌∷◌, true, false, Some, None, codes}
use Rattle.ip_ranges.specs.declared.family.Family.TheVariants.{V4}
use Rattle.ip_ranges.specs.Values.{AddressValue}
use Rattle.kube_model.specs.declared.event.Event.{Event}
use Rattle.kube_model.specs.declared.event.Event.TheVariants.{Changed, ListEnd}
use Rattle.kube_model.specs.declared.event.ListGroup.TheVariants as groups
use Rattle.kube_model.specs.declared.key.Key.{Key}
use Rattle.kube_model.specs.declared.object.Object.TheVariants as objects
use Rattle.kube_model.specs.declared.pool.Pool.{Pool}
use Rattle.kube_model.specs.declared.port.Protocol.TheVariants.{Tcp}
use Rattle.kube_model.specs.declared.record.Record.{Record}
use Rattle.kube_model.specs.declared.service.Policy.TheVariants.{Cluster}
use Rattle.kube_model.specs.declared.service.Service.{Service}
use Rattle.kube_model.specs.declared.service.Wanted.TheVariants.{NotAsked}

-- 192.0.2.10 and 192.0.2.11, given to whoever asks for none
abbrev pub pool : Pool
pool = record {
  name = codes "p";
  labels = [];
  entries = codes "192.0.2.10-192.0.2.11" ∷ [];
  auto_assign = true;
  avoid_buggy = false;
  allocation = None;
}

-- the first address of the pool, and the second
abbrev pub first : AddressValue
first = record { family = V4; number = 3221225994 }

abbrev pub second : AddressValue
second = record { family = V4; number = 3221225995 }

-- an address of no pool
abbrev pub other : AddressValue
other = record { family = V4; number = 3325256705 }

-- three services, in two namespaces
abbrev pub x : Key
x = record { namespace = codes "a"; name = codes "x" }

abbrev pub z : Key
z = record { namespace = codes "a"; name = codes "z" }

abbrev pub y : Key
y = record { namespace = codes "a-b"; name = codes "y" }

-- a service of type LoadBalancer with port 80, shared with nobody, and with this record
abbrev pub service : Key → Record → Service
service k holding = record {
  key = k;
  labels = [];
  balancer = true;
  class = None;
  families = V4 ∷ [];
  prefer_dual = false;
  policy = Cluster;
  selector = [];
  ports = record { protocol = Tcp; port = 80 } ∷ [];
  share_key = [];
  pool_asked = [];
  wanted = NotAsked;
  holding = holding;
}

-- the same of another type
abbrev pub plain : Key → Record → Service
plain k holding = record (service k holding) { balancer = false }

-- the same of another class
abbrev pub foreign : Key → Record → Service
foreign k holding = record (service k holding) { class = Some (codes "lb") }

-- an address of the pool with the mark of these terms, with none, and no address
abbrev pub given : AddressValue → Record
given a = record { addresses = a ∷ []; pool = codes "p"; mark = codes "v1;;T80;C" }

abbrev pub unmarked : AddressValue → Record
unmarked a = record { addresses = a ∷ []; pool = []; mark = [] }

abbrev pub bare : Record
bare = record { addresses = []; pool = []; mark = [] }

-- what is left of the first where the addresses are emptied
abbrev pub emptied_record : Record
emptied_record = record { addresses = []; pool = codes "p"; mark = codes "v1;;T80;C" }

-- ---- events
abbrev pub shows : ℕ → Service → Event
shows version s = Changed version (objects.Service s)

abbrev pub shows_pool : ℕ → Event
shows_pool version = Changed version (objects.Pool pool)

abbrev pub config_end : Event
config_end = ListEnd groups.Config

abbrev pub services_end : Event
services_end = ListEnd groups.Service
