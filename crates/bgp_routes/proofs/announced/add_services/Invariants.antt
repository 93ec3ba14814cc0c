use Rattle.std.proofs.Common.{◌≡◌}
use Rattle.bgp_routes.specs.Routes.{of_service}
use Rattle.bgp_routes.specs.Uniting.{with_each}
use Rattle.speaker_view.specs.Held.{objects_of}
use Rattle.bgp_routes.proofs.announced.add_services.Given as goal

abbrev pub invariant-loop-held : goal.invariant-loop-held
invariant-loop-held l = with_each (of_service l.view l.node l.peer l.both l.config) l.routes (objects_of l.held-iterator)
    ≡ with_each (of_service l.view l.node l.peer l.both l.config) l.initial.routes (objects_of l.view.held.services)
