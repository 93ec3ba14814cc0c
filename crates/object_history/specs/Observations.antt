-- What is observed of a cluster.
use Rattle.std.specs.Prelude.{ℕ, Bool, true, false, ◌==◌}
use Rattle.kube_model.specs.declared.event.Event.{Event}
use Rattle.kube_model.specs.declared.event.ListGroup.{ListGroup}
use Rattle.kube_model.specs.declared.event.ListGroup.TheVariants as groups
use Rattle.kube_model.specs.declared.key.Key.{Key}
use Rattle.kube_model.specs.declared.object.Kind.{Kind}
use Rattle.kube_model.specs.declared.object.Kind.TheVariants as kinds
use Rattle.kube_model.specs.declared.record.Record.{Record}

-- one thing that is observed
pub data Observation : Type 0 where
  Watched : (event : Event) → Observation  -- an event of a watch; `Expired` is that of all watches
  WatchExpired : (group : ListGroup) → Observation  -- the watch of this list has expired
  Written : (key : Key) → (version : ℕ) → (holding : Record) → Observation  -- the service's record was replaced, which made it this version

abbrev pub group_number : ListGroup → ℕ
group_number groups.Config = 0
group_number groups.Service = 1
group_number groups.Endpoint = 2

-- whether the lists are one
abbrev pub same_group : ListGroup → ListGroup → Bool
same_group a b = group_number a == group_number b

abbrev pub kind_number : Kind → ℕ
kind_number kinds.Service = 0
kind_number kinds.Pool = 1
kind_number kinds.L2 = 2
kind_number kinds.Bgp = 3
kind_number kinds.Peer = 4
kind_number kinds.Community = 5
kind_number kinds.Namespace = 6
kind_number kinds.Node = 7
kind_number kinds.Slice = 8

-- whether the kinds are one
abbrev pub same_kind : Kind → Kind → Bool
same_kind a b = kind_number a == kind_number b

-- whether the configuration is compiled from objects of the kind; a namespace or a node isn't one, though it comes in that list
abbrev pub is_config_kind : Kind → Bool
is_config_kind kinds.Pool = true
is_config_kind kinds.L2 = true
is_config_kind kinds.Bgp = true
is_config_kind kinds.Peer = true
is_config_kind kinds.Community = true
is_config_kind kinds.Service = false
is_config_kind kinds.Namespace = false
is_config_kind kinds.Node = false
is_config_kind kinds.Slice = false
