use Rattle.std.proofs.Common.{◌≡◌, ◌++◌, drop}
use Rattle.sharing_terms.specs.Spelled.{pieces}
use Rattle.sharing_terms.proofs.ReadingLaws.{prefixed}
use Rattle.sharing_terms.proofs.reading.pieces.Given as goal

abbrev pub invariant-loop-c : goal.invariant-loop-c
invariant-loop-c l = l.done.items ++ prefixed l.piece (pieces l.byte (drop l.c-index l.text)) ≡ pieces l.byte l.text
