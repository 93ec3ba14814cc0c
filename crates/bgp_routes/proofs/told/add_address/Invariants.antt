use Rattle.std.proofs.Common.{◌≡◌, drop}
use Rattle.bgp_routes.specs.Contributors.{of_advertisements}
use Rattle.bgp_routes.specs.Uniting.{with_contributions}
use Rattle.bgp_routes.proofs.told.add_address.Given as goal

abbrev pub invariant-loop-place : goal.invariant-loop-place
invariant-loop-place l =
    with_contributions l.routes (of_advertisements l.contributors l.peer l.address l.place (drop l.place l.advertisements))
    ≡ with_contributions l.initial.routes (of_advertisements l.contributors l.peer l.address 0 l.advertisements)
