use Rattle.std.proofs.Common.{◌≡◌, drop}
use Rattle.std.specs.List.{list_any}
use Rattle.pool_config.specs.Search.{has_equal_length}
use Rattle.pool_config.proofs.clashes.has_equal_length.Given as goal

abbrev pub invariant-loop-span : goal.invariant-loop-span
invariant-loop-span l =
    list_any (has_equal_length l.first l.second) (drop l.span-index l.span-items) ≡ list_any (has_equal_length l.first l.second) l.pool.spans
