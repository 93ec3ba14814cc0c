use Rattle.std.proofs.Common.{◌≡◌}
use Rattle.std.specs.Map.{keys_of}
use Rattle.bgp_routes.specs.Contributors.{of_aggregate}
use Rattle.bgp_routes.specs.Uniting.{with_each}
use Rattle.bgp_routes.proofs.told.add_aggregates.Given as goal

abbrev pub invariant-loop-aggregate : goal.invariant-loop-aggregate
invariant-loop-aggregate l =
    with_each (of_aggregate l.contributors l.advertisements l.peer) l.routes l.aggregate-iterator
    ≡ with_each (of_aggregate l.contributors l.advertisements l.peer) l.initial.routes (keys_of l.contributors)
