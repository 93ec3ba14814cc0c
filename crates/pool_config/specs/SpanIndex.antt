-- The spans of the pools in order, and what a search among them finds.
use Rattle.std.specs.Prelude.{◌≡◌, ℕ, ◌+◌, ◌<◌, ◌≤◌, List, [], ◌∷◌, ◌++◌, Option, Some, None, if◌then◌else◌}
use Rattle.std.specs.List.{Contains, filter_map}
use Rattle.std.specs.List.Sorted.{IsPermutation}
use Rattle.ip_ranges.specs.declared.family.Family.{Family}
use Rattle.ip_ranges.specs.declared.family.Family.TheVariants.{V4, V6}
use Rattle.ip_ranges.specs.Values.{SpanValue, same_family}
use Rattle.pool_config.specs.declared.compiled.CompiledPool.{CompiledPool}
use Rattle.pool_config.specs.declared.span_index.PlacedSpan.{PlacedSpan}
use Rattle.pool_config.specs.declared.span_index.FamilyIndex.{FamilyIndex}
use Rattle.pool_config.specs.declared.span_index.SpanIndex.{SpanIndex}
use Rattle.pool_config.specs.ConfigValue.{placed_spans}
use Rattle.mlb_base.specs.Items.{ItemAt}

-- a span of the pool at the place, if it is of the family
abbrev pub placed_in : Family → ℕ → SpanValue → Option PlacedSpan
placed_in family place span = if same_family span.family family then Some (record { low = span.low; high = span.high; pool = place }) else None

-- the spans of the family, of pools of which the first has the place
abbrev pub spans_in : Family → ℕ → List CompiledPool → List PlacedSpan
spans_in family place [] = []
spans_in family place (pool ∷ pools) = filter_map (placed_in family place) pool.spans ++ spans_in family (place + 1) pools

-- the span has the number
abbrev pub IsWithin : ℕ → PlacedSpan → Type 0
IsWithin n span = (span.low ≤ n) × (n ≤ span.high)

-- a span of the pool at the place has the number
abbrev pub IsHolder : List PlacedSpan → ℕ → ℕ → Type 0
IsHolder spans n place = (span : PlacedSpan) × Contains spans span × (span.pool ≡ place) × IsWithin n span

-- in each span that has the number another one begins, which ends below it
abbrev pub AreCut : List PlacedSpan → ℕ → Type 0
AreCut spans n =
    (span : PlacedSpan) → Contains spans span → IsWithin n span
    → (other : PlacedSpan) × Contains spans other × (span.low ≤ other.low) × (other.low ≤ n) × (other.high < n)

abbrev pub index_of : Family → SpanIndex → FamilyIndex
index_of V4 index = index.v4
index_of V6 index = index.v6

-- the index has the spans of the pools
abbrev pub HasSpansOf : List CompiledPool → SpanIndex → Type 0
HasSpansOf pools index = (family : Family) → IsPermutation (spans_in family 0 pools) (index_of family index).spans.items

-- and none of them ends below where it begins
pub record IsIndexOf (pools : List CompiledPool) (index : SpanIndex) : Type 0 where
  pub same : HasSpansOf pools index
  pub rise : (i : ℕ) (span : List ℕ × SpanValue) → ItemAt (placed_spans pools) i span → span.1.low ≤ span.1.high
