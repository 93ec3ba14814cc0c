-- Overlapping spans, as they are looked for: of each span in turn, those after it only where it overlaps some other one.
use Rattle.std.specs.Prelude.{ℕ, ◌+◌, Bool, List, [], ◌∷◌, find, Option, Some, None, if◌then◌else◌, nat_lt, nat_le}
use Rattle.std.specs.List.{AllByRecursion, count_by, list_any}
use Rattle.std.specs.List.Sorted.{IsPermutation}
use Rattle.std.specs.Option.{option_map, option_or}
use Rattle.ip_ranges.specs.declared.family.Family.{Family}
use Rattle.ip_ranges.specs.declared.family.Family.TheVariants.{V4, V6}
use Rattle.ip_ranges.specs.Values.{SpanValue, IsRange, overlaps}
use Rattle.pool_config.specs.declared.compiled.CompiledPool.{CompiledPool}
use Rattle.pool_config.specs.Bounds.{lows_in, highs_in}
use Rattle.pool_config.specs.declared.bounds.FamilyBounds.{FamilyBounds}
use Rattle.pool_config.specs.declared.bounds.Bounds.{Bounds}

abbrev pub bounds_of : Family → Bounds → FamilyBounds
bounds_of V4 bounds = bounds.v4
bounds_of V6 bounds = bounds.v6

-- how many spans begin at the number or below it, and how many end below it
abbrev pub begun_at : ℕ → FamilyBounds → ℕ
begun_at number bounds = count_by (λ low. nat_le low number) bounds.lows.items

abbrev pub ended_below : ℕ → FamilyBounds → ℕ
ended_below number bounds = count_by (λ high. nat_lt high number) bounds.highs.items

-- the bounds are those of the spans, which are ranges
pub record AreBoundsOf (spans : List SpanValue) (bounds : Bounds) : Type 0 where
  pub lows : (family : Family) → IsPermutation (lows_in family spans) (bounds_of family bounds).lows.items
  pub highs : (family : Family) → IsPermutation (highs_in family spans) (bounds_of family bounds).highs.items
  pub ranges : AllByRecursion IsRange spans

-- of the spans that have begun by the span's end, more than one haven't ended before it begins
abbrev pub meets_another : Bounds → SpanValue → Bool
meets_another bounds span =
    let of_family = bounds_of span.family bounds in nat_lt (ended_below span.low of_family + 1) (begun_at span.high of_family)

-- the span overlaps one of the others, of its own pool, which come first, or of the pools after
abbrev pub met_behind : SpanValue → List ℕ → List SpanValue → List CompiledPool → Option (List ℕ)
met_behind span name others pools =
    if list_any (overlaps span) others then Some name
    else option_map (λ pool. pool.name) (find (λ pool. list_any (overlaps span) pool.spans) pools)

-- the same, if it overlaps another one at all
unfoldable pub met_from : Bounds → SpanValue → List ℕ → List SpanValue → List CompiledPool → Option (List ℕ)
met_from bounds span name others pools = if meets_another bounds span then met_behind span name others pools else None

abbrev pub met_within : Bounds → List ℕ → List SpanValue → List CompiledPool → Option (List ℕ)
met_within bounds name [] pools = None
met_within bounds name (span ∷ others) pools = option_or (met_from bounds span name others pools) (met_within bounds name others pools)

-- the pool of the later one of the first two spans that overlap
abbrev pub first_met : Bounds → List CompiledPool → Option (List ℕ)
first_met bounds [] = None
first_met bounds (pool ∷ pools) = option_or (met_within bounds pool.name pool.spans pools) (first_met bounds pools)
