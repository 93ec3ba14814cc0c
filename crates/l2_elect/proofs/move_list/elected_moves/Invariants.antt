use Rattle.std.proofs.Common.{◌≡◌, ◌++◌, drop, map}
use Rattle.l2_elect.specs.Kept.{move_to}
use Rattle.l2_elect.proofs.move_list.elected_moves.Given as goal

abbrev pub invariant-loop-address : goal.invariant-loop-address
invariant-loop-address l =
    l.moves ++ map (move_to l.view) (drop l.address-index l.address-items) ≡ map (move_to l.view) l.addresses
