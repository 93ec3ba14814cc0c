-- What an object is known by: its kind, and its key among those of the kind.
use Rattle.std.specs.Prelude.{ℕ, List, []}
use Rattle.std.specs.Ordering.{nat_cmp, ordering_then}
use Rattle.std.specs.declared.cmp.Ordering.{Ordering}
use Rattle.kube_model.specs.declared.key.Key.{Key}
use Rattle.kube_model.specs.declared.object.Kind.{Kind}
use Rattle.kube_model.specs.declared.object.Kind.TheVariants as kinds
use Rattle.kube_model.specs.declared.object.Object.{Object}
use Rattle.kube_model.specs.declared.object.Object.TheVariants as objects
use Rattle.kube_model.specs.Keys.{key_cmp}
use Rattle.kube_model.specs.Kinds.{kind_of}

-- the key of an object whose kind has no namespaces
abbrev pub bare_key : List ℕ → Key
bare_key name = record { namespace = []; name = name }

-- the key of an object; the namespace is empty where its kind has none
abbrev pub key_of : Object → Key
key_of (objects.Service service) = service.key
key_of (objects.Pool pool) = bare_key pool.name
key_of (objects.L2 adv) = bare_key adv.name
key_of (objects.Bgp adv) = bare_key adv.name
key_of (objects.Peer peer) = bare_key peer.name
key_of (objects.Community community) = bare_key community.name
key_of (objects.Namespace namespace) = bare_key namespace.name
key_of (objects.Node node) = bare_key node.name
key_of (objects.Slice slice) = slice.key

-- a kind and a key
abbrev pub Place : Type 0
Place = Kind × Key

-- the kind and the key of an object
abbrev pub place_of : Object → Place
place_of object = (kind_of object, key_of object)

-- the place of the service of this key
abbrev pub service_at : Key → Place
service_at key = (kinds.Service, key)

-- how many kinds are declared ahead of the kind
abbrev pub kind_rank : Kind → ℕ
kind_rank kinds.Service = 0
kind_rank kinds.Pool = 1
kind_rank kinds.L2 = 2
kind_rank kinds.Bgp = 3
kind_rank kinds.Peer = 4
kind_rank kinds.Community = 5
kind_rank kinds.Namespace = 6
kind_rank kinds.Node = 7
kind_rank kinds.Slice = 8

-- kinds are ordered as they are declared
abbrev pub kind_cmp : Kind → Kind → Ordering
kind_cmp a b = nat_cmp (kind_rank a) (kind_rank b)

-- places are ordered by kind, then by key
abbrev pub place_cmp : Place → Place → Ordering
place_cmp a b = ordering_then (kind_cmp a.0 b.0) (key_cmp a.1 b.1)
