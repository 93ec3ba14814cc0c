use Rattle.std.proofs.Common.{◌≡◌, ◌++◌}
use Rattle.std.specs.List.{flat_map}
use Rattle.std.specs.Map.{keys_of}
use Rattle.l2_elect.specs.Kept.{moves_at}
use Rattle.l2_elect.proofs.announcers.Announcers.push_held.Given as goal

abbrev pub invariant-loop-address : goal.invariant-loop-address
invariant-loop-address l =
    l.moves ++ flat_map (moves_at l.view l.self) l.address-iterator ≡ l.fn.moves ++ flat_map (moves_at l.view l.self) (keys_of l.self)
