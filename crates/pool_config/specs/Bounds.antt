-- The numbers that spans begin and end with.
use Rattle.std.specs.Prelude.{ℕ, List, Option, Some, None, if◌then◌else◌}
use Rattle.std.specs.List.{filter_map, flat_map}
use Rattle.ip_ranges.specs.declared.family.Family.{Family}
use Rattle.ip_ranges.specs.Values.{SpanValue, same_family}
use Rattle.pool_config.specs.declared.compiled.CompiledPool.{CompiledPool}

-- the numbers that a span begins and ends with, if it is of the family
abbrev pub low_in : Family → SpanValue → Option ℕ
low_in family span = if same_family span.family family then Some span.low else None

abbrev pub high_in : Family → SpanValue → Option ℕ
high_in family span = if same_family span.family family then Some span.high else None

abbrev pub lows_in : Family → List SpanValue → List ℕ
lows_in family spans = filter_map (low_in family) spans

abbrev pub highs_in : Family → List SpanValue → List ℕ
highs_in family spans = filter_map (high_in family) spans

-- the spans of all pools, as they are listed
abbrev pub all_spans : List CompiledPool → List SpanValue
all_spans pools = flat_map (λ pool. pool.spans) pools
