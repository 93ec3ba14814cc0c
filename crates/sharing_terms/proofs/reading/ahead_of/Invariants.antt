use Rattle.std.proofs.Common.{◌≡◌, ◌++◌, drop, take}
use Rattle.sharing_terms.specs.Spelled.{ahead_of}
use Rattle.sharing_terms.proofs.reading.ahead_of.Given as goal

abbrev pub invariant-loop-at : goal.invariant-loop-at
invariant-loop-at l = take l.at l.text ++ ahead_of l.byte (drop l.at l.text) ≡ ahead_of l.byte l.text
