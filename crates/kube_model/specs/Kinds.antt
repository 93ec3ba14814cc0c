-- The kinds of objects, and the lists that they come in.
use Rattle.kube_model.specs.declared.object.Object.{Object}
use Rattle.kube_model.specs.declared.object.Object.TheVariants as objects
use Rattle.kube_model.specs.declared.object.Kind.{Kind}
use Rattle.kube_model.specs.declared.object.Kind.TheVariants as kinds
use Rattle.kube_model.specs.declared.event.ListGroup.{ListGroup}
use Rattle.kube_model.specs.declared.event.ListGroup.TheVariants as groups

abbrev pub kind_of : Object → Kind
kind_of (objects.Service service) = kinds.Service
kind_of (objects.Pool pool) = kinds.Pool
kind_of (objects.L2 advertisement) = kinds.L2
kind_of (objects.Bgp advertisement) = kinds.Bgp
kind_of (objects.Peer peer) = kinds.Peer
kind_of (objects.Community community) = kinds.Community
kind_of (objects.Namespace namespace) = kinds.Namespace
kind_of (objects.Node node) = kinds.Node
kind_of (objects.Slice slice) = kinds.Slice

-- Services and endpoint slices have lists of their own.
abbrev pub group_of : Kind → ListGroup
group_of kinds.Service = groups.Service
group_of kinds.Slice = groups.Endpoint
group_of kinds.Pool = groups.Config
group_of kinds.L2 = groups.Config
group_of kinds.Bgp = groups.Config
group_of kinds.Peer = groups.Config
group_of kinds.Community = groups.Config
group_of kinds.Namespace = groups.Config
group_of kinds.Node = groups.Config
