use Rattle.std.proofs.Common.{◌≡◌, [], drop}
use Rattle.sharing_terms.specs.Spelled.{labels_from}
use Rattle.sharing_terms.proofs.reading.labels_from.Given as goal

abbrev pub invariant-loop-piece : goal.invariant-loop-piece
invariant-loop-piece l = labels_from l.labels (drop l.piece-index l.pieces) ≡ labels_from [] l.pieces
