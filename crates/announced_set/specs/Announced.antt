-- The addresses that a node announces, as a list.
use Rattle.std.specs.Prelude.{◌↔◌, ℕ, List, [], filter, fold, Contains}
use Rattle.std.specs.List.Sorted.{IsStrictlySortedBy}
use Rattle.ip_ranges.specs.Values.{AddressValue}
use Rattle.kube_model.specs.declared.service.Service.{Service}
use Rattle.pool_config.specs.KeySets.{keys_with}
pub use Rattle.speaker_view.specs.Addresses.{address_cmp}
use Rattle.speaker_view.specs.Held.{objects_of}
use Rattle.speaker_view.specs.ViewValue.{ViewValue}
use Rattle.l2_elect.specs.Election.{IsAnnouncer, announces_of}

-- those of the addresses that the node announces
abbrev pub announced_of : ViewValue → List ℕ → List AddressValue → List AddressValue
announced_of v node addresses = filter (λ address. announces_of v node address) addresses

-- those that the services record, each put in its place among those found, once
abbrev pub announced_with : ViewValue → List ℕ → List AddressValue → List Service → List AddressValue
announced_with v node found services = fold (λ all service. keys_with address_cmp all (announced_of v node service.holding.addresses)) found services

-- all that the node announces; an address that no held service records is announced by none
abbrev pub announced_by : ViewValue → List ℕ → List AddressValue
announced_by v node = announced_with v node [] (objects_of v.held.services)

-- The addresses ascend, IPv4 before IPv6, and are exactly those that the node announces.
pub record AreAnnounced (v : ViewValue) (node : List ℕ) (addresses : List AddressValue) : Type 0 where
  pub ascend : IsStrictlySortedBy address_cmp addresses
  pub each : (a : AddressValue) → Contains addresses a ↔ IsAnnouncer v a node

-- so are they of every view and node
abbrev pub AllAreAnnounced : Type 0
AllAreAnnounced = (v : ViewValue) (node : List ℕ) → AreAnnounced v node (announced_by v node)
