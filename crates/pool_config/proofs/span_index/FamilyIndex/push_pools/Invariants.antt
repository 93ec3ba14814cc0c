use Rattle.std.proofs.Common.{◌≡◌, ◌++◌, drop}
use Rattle.pool_config.specs.SpanIndex.{spans_in}
use Rattle.pool_config.proofs.span_index.FamilyIndex.push_pools.Given as goal

abbrev pub invariant-loop-place : goal.invariant-loop-place
invariant-loop-place l = l.spans.items ++ spans_in l.family l.place (drop l.place l.pools) ≡ l.initial.spans.items ++ spans_in l.family 0 l.pools
