use Rattle.std.proofs.Common.{◌≡◌, drop}
use Rattle.bgp_routes.specs.Contributors.{of_address}
use Rattle.bgp_routes.specs.Uniting.{with_each}
use Rattle.bgp_routes.proofs.told.add_addresses.Given as goal

abbrev pub invariant-loop-address : goal.invariant-loop-address
invariant-loop-address l =
    with_each (of_address l.contributors l.advertisements l.peer) l.routes (drop l.address-index l.addresses)
    ≡ with_each (of_address l.contributors l.advertisements l.peer) l.initial.routes l.addresses
