use Rattle.std.proofs.Common.{◌≤◌, take}
use Rattle.std.specs.Map.{values_of}
use Rattle.claim_index.proofs.ShareLaws.{NoneOpen}
use Rattle.claim_index.proofs.index.ClaimIndex.first_shareable.Given as goal

abbrev pub invariant-loop-port : goal.invariant-loop-port
invariant-loop-port l =
    record {
      begun : l.low ≤ l.left;
      within : l.left ≤ l.high;
      none : NoneOpen (values_of l.self.items) l.terms l.family (take l.port-index l.port-items) l.low l.left;
    }
