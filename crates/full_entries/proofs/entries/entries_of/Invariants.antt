use Rattle.std.proofs.Common.{◌≡◌, ◌++◌, drop}
use Rattle.full_entries.specs.Entries.{entries_of}
use Rattle.full_entries.proofs.entries.entries_of.Given as goal

abbrev pub invariant-loop-pool : goal.invariant-loop-pool
invariant-loop-pool l = l.entries.items ++ entries_of (drop l.pool-index l.pools) ≡ entries_of l.pools
