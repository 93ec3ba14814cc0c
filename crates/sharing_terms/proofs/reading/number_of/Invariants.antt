use Rattle.std.proofs.Common.{◌≡◌, ◌<◌, drop}
use Rattle.sharing_terms.specs.Spelled.{number_from}
use Rattle.sharing_terms.proofs.reading.number_of.Given as goal

abbrev pub invariant-loop-digit : goal.invariant-loop-digit
invariant-loop-digit l =
    record {
      below : l.number < 65536;
      rest : number_from l.number (drop l.digit-index l.digits) ≡ number_from 0 l.digits;
    }
