use Rattle.std.proofs.Common.{take}
use Rattle.bgp_routes.specs.Contributors.{AreTouched, StandRight}
use Rattle.bgp_routes.proofs.touching.touch_all.Given as goal

abbrev pub invariant-loop-address : goal.invariant-loop-address
invariant-loop-address l = record {
  touched : AreTouched l.view l.node l.both (take l.address-index l.addresses) l.fn.contributors l.contributors;
  stand : StandRight l.both l.held.advertisements l.contributors;
}
