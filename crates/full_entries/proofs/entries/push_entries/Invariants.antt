use Rattle.std.proofs.Common.{◌≡◌, ◌++◌, drop, map}
use Rattle.full_entries.specs.Entries.{entry_of}
use Rattle.full_entries.proofs.entries.push_entries.Given as goal

abbrev pub invariant-loop-span : goal.invariant-loop-span
invariant-loop-span l =
    l.entries.items ++ map (entry_of l.pool.avoid_buggy) (drop l.span-index l.pool.spans)
    ≡ l.initial.entries.items ++ map (entry_of l.pool.avoid_buggy) l.pool.spans
