use Rattle.std.proofs.Common.{◌≡◌, ◌++◌, drop}
use Rattle.std.specs.List.{filter_map}
use Rattle.pool_config.specs.SpanIndex.{placed_in}
use Rattle.pool_config.proofs.span_index.FamilyIndex.push_spans.Given as goal

abbrev pub invariant-loop-span : goal.invariant-loop-span
invariant-loop-span l =
    l.spans.items ++ filter_map (placed_in l.family l.pool) (drop l.span-index l.all) ≡ l.initial.spans.items ++ filter_map (placed_in l.family l.pool) l.all
