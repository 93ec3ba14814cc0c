use Rattle.std.proofs.Common.{◌≡◌, drop}
use Rattle.sharing_terms.specs.Spelled.{behind}
use Rattle.sharing_terms.proofs.reading.behind.Given as goal

abbrev pub invariant-loop-at : goal.invariant-loop-at
invariant-loop-at l = behind l.byte (drop l.at l.text) ≡ behind l.byte l.text
