use Rattle.std.proofs.Common.{◌≡◌}
use Rattle.std.specs.Map.{values_of}
use Rattle.full_entries.specs.Full.{AreFull}
use Rattle.full_entries.proofs.entry_claims.learn_all.Given as goal

abbrev pub invariant-loop-place : goal.invariant-loop-place
invariant-loop-place l =
    record {
      full : AreFull (values_of l.claims.items) l.entries;
      entries : l.entries.entries ≡ l.fn.entries.entries;
    }
