-- The spans of the pools, pool by pool.
use Rattle.std.proofs.Common.{◌≡◌, ℕ, suc, ◌+◌, ◌<◌, List, ◌∷◌, ◌++◌, Option, length, get_or, drop, sym, ◌∙◌, ap, append_assoc, add-one}
use Rattle.std.proofs.Math.Seq.{drop-cons}
use Rattle.std.proofs.lemmas.List.Elements.{filter_map-append}
use Rattle.std.specs.List.{AllByRecursion, filter_map}
use Rattle.mlb_base.proofs.Lists.{all-append}
use Rattle.ip_ranges.specs.Values.{SpanValue, IsRange}
use Rattle.pool_config.specs.declared.compiled.CompiledPool.{CompiledPool}
use Rattle.pool_config.specs.Bounds.{all_spans}

spans_more : (pools : List CompiledPool) (i : ℕ) (p : CompiledPool) → i < length pools → p ≡ get_or pools i p
    → all_spans (drop i pools) ≡ p.spans ++ all_spans (drop (i + 1) pools)
spans_more pools i p below is = rw add-one (ap all_spans (drop-cons pools i p below ∙ ap (λ q. q ∷ drop (suc i) pools) (sym is)))

-- the numbers of one more pool
pub numbers_more : (h : SpanValue → Option ℕ) (pools : List CompiledPool) (i : ℕ) (p : CompiledPool) → i < length pools → p ≡ get_or pools i p
    → (before after all : List ℕ)
    → after ≡ before ++ filter_map h p.spans → before ++ filter_map h (all_spans (drop i pools)) ≡ all
    → after ++ filter_map h (all_spans (drop (i + 1) pools)) ≡ all
numbers_more h pools i p below is before after all pushed so_far =
    rw (pushed, append_assoc, ← filter_map-append h p.spans (all_spans (drop (i + 1) pools)), ← spans_more pools i p below is) so_far

pub ranges_more : (pools : List CompiledPool) (i : ℕ) (p : CompiledPool) → i < length pools → p ≡ get_or pools i p
    → AllByRecursion IsRange p.spans → AllByRecursion IsRange (all_spans (drop (i + 1) pools)) → AllByRecursion IsRange (all_spans (drop i pools))
ranges_more pools i p below is here later = rw (spans_more pools i p below is) (all-append IsRange p.spans (all_spans (drop (i + 1) pools)) here later)
