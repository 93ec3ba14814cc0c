use Rattle.std.proofs.Common.{◌≡◌, ◌++◌, drop, option_map}
use Rattle.sharing_terms.specs.Spelled.{ports_from}
use Rattle.sharing_terms.proofs.reading.ports_from.Given as goal

abbrev pub invariant-loop-piece : goal.invariant-loop-piece
invariant-loop-piece l = option_map (λ rest. l.ports ++ rest) (ports_from (drop l.piece-index l.pieces)) ≡ ports_from l.pieces
