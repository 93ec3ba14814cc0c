-- Sets of ports, as ascending lists.
use Rattle.std.specs.Prelude.{◌↔◌, ℕ, List, [], ◌∷◌, Contains}
use Rattle.std.specs.declared.cmp.Ordering.{Ordering}
use Rattle.std.specs.Ordering.{nat_cmp, ordering_then}
use Rattle.std.specs.List.Sorted.{IsStrictlySortedBy}
use Rattle.std.specs.BTreeSet.{insert_key}
use Rattle.kube_model.specs.declared.port.Port.{Port}
use Rattle.kube_model.specs.declared.port.Protocol.{Protocol}
use Rattle.kube_model.specs.declared.port.Protocol.TheVariants.{Tcp, Udp, Sctp}

-- TCP before UDP before SCTP
abbrev pub rank : Protocol → ℕ
rank Tcp = 0
rank Udp = 1
rank Sctp = 2

-- by protocol, then by number
abbrev pub port_cmp : Port → Port → Ordering
port_cmp a b = ordering_then (nat_cmp (rank a.protocol) (rank b.protocol)) (nat_cmp a.port b.port)

-- each port stands before those after it, so none stands twice
abbrev pub AreAscending : List Port → Type 0
AreAscending ports = IsStrictlySortedBy port_cmp ports

-- the ports kept, and those of the list, each in its place
abbrev pub ports_with : List Port → List Port → List Port
ports_with kept [] = kept
ports_with kept (port ∷ ports) = ports_with (insert_key port_cmp kept port) ports

-- the ports of the list, each once, ascending
abbrev pub ports_in : List Port → List Port
ports_in ports = ports_with [] ports

-- exactly the ports of the list, ascending, so that each stands once
abbrev pub ArePortsOf : List Port → List Port → Type 0
ArePortsOf ports set = AreAscending set × ((port : Port) → Contains set port ↔ Contains ports port)
