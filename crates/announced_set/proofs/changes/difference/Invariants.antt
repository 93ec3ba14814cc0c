use Rattle.std.proofs.Common.{◌≡◌, ◌||◌}
use Rattle.std.specs.BTreeSet.{difference}
use Rattle.ip_ranges.specs.Values.{AddressValue, has_address}
use Rattle.announced_set.specs.Announced.{address_cmp}
use Rattle.announced_set.proofs.changes.difference.Given as goal

abbrev pub invariant-loop-address : goal.invariant-loop-address
invariant-loop-address l =
    (a : AddressValue) → (has_address l.found.keys a || has_address l.address-iterator a) ≡ has_address (difference address_cmp l.addresses l.others) a
