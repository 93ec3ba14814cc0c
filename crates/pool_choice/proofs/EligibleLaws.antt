-- The sorted list of the pools that are offered is what is eligible.
use Rattle.std.proofs.Common.{◌≡◌, ℕ, List, [], ◌∷◌, map, filter, slice_get, Some, Less, Equal, Decides}
use Rattle.std.proofs.Common.{Result, Ok, Err, IfOk, IsPermutation, IsSorted, ap, ◌∙◌, subst}
use Rattle.std.proofs.lemmas.Bool.Decides.{Decides-and}
use Rattle.std.specs.List.Sorted.{IsStrictlySortedBy}
use Rattle.mlb_base.proofs.Orders.{both_equal}
use Rattle.kube_labels.specs.Names.{name_cmp}
use Rattle.kube_model.specs.declared.service.Service.{Service}
use Rattle.pool_config.specs.declared.compiled.CompiledPool.{CompiledPool}
use Rattle.pool_choice.specs.declared.choice.RankedPool.{RankedPool}
use Rattle.pool_choice.specs.Eligible.{StandsBefore, IsOffered, AreEligible, is_offered, eligible, ranked_from, ranked_cmp}
use Rattle.pool_choice.specs.Rank.{rank_of, rank_cmp, pool_cmp}
use Rattle.pool_choice.specs.Serving.{serves}
use Rattle.pool_choice.specs.Sorted.{sorted}
use Rattle.mlb_base.proofs.Lists.{filter-contains, filter-keeps}
use Rattle.pool_choice.proofs.RankedLaws.{NamesAscend, names-ascend, offered-ascend, ranked-apart, places-got}
use Rattle.pool_choice.proofs.RankLaws.{entry-total, entry-exact, pool-total, less-stands}
use Rattle.pool_choice.proofs.ServingLaws.{serves-Decides}
use Rattle.pool_choice.proofs.SortLaws.{AreApart, all-map, pairs-map, pairs-ascend, sorted-found, sorted-has, sorted-ascends, sort-is}

-- ---- what is eligible
offered-Decides : (service : Service) (labels : List (List ℕ × List ℕ)) (pool : CompiledPool)
    → Decides (is_offered service labels pool) (IsOffered service labels pool)
offered-Decides service labels pool = Decides-and pool.auto_assign (serves service labels pool) (λ e. e, λ e. e) (serves-Decides service labels pool)

tied-never : (p q : CompiledPool) → name_cmp p.name q.name ≡ Less → pool_cmp p q ≡ Equal → ⊥
tied-never p q less tied = let names = (both_equal (rank_cmp (rank_of p) (rank_of q)) (name_cmp p.name q.name) tied).1 in cc

names-apart : (pools : List CompiledPool) → NamesAscend pools → AreApart pool_cmp pools
names-apart [] up = tt
names-apart (p ∷ pools) up =
    (all-map (λ q. name_cmp p.name q.name ≡ Less) (λ q. pool_cmp p q ≡ Equal → ⊥) pools (λ q less. tied-never p q less) up.0, names-apart pools up.1)

pub eligible-are : (service : Service) (labels : List (List ℕ × List ℕ)) (pools : List CompiledPool) → IsStrictlySortedBy name_cmp (map (λ p. p.name) pools)
    → AreEligible service labels pools (eligible service labels pools)
eligible-are service labels pools up =
    let offered = filter (is_offered service labels) pools in
    let rises = sorted-ascends pool_cmp pool-total offered (names-apart offered (offered-ascend service labels pools (names-ascend pools up))) in
    record {
      ordered =
          pairs-map (λ p q. pool_cmp p q ≡ Less) StandsBefore (sorted pool_cmp offered) less-stands (pairs-ascend pool_cmp (sorted pool_cmp offered) rises);
      exact = λ pool. (
        λ there. let kept = filter-contains (is_offered service labels) pools pool (sorted-found pool_cmp offered pool there) in
            (kept.0, (offered-Decides service labels pool).0 kept.1),
        λ given. sorted-has pool_cmp offered pool
            (filter-keeps (is_offered service labels) pools pool given.0 ((offered-Decides service labels pool).1 given.1)),
      );
    }

-- ---- what the code sorts
pub ranked-sorted : (service : Service) (labels : List (List ℕ × List ℕ)) (pools : List CompiledPool) (ranked ordered : List RankedPool)
    → ranked ≡ ranked_from service labels 0 pools
    → IsPermutation ranked ordered → IsSorted ranked_cmp ordered → ordered ≡ sorted ranked_cmp (ranked_from service labels 0 pools)
ranked-sorted service labels pools ranked ordered is moved up =
    sort-is ranked_cmp entry-total entry-exact (ranked_from service labels 0 pools) ordered (ranked-apart service labels pools 0)
    (subst (λ (es : List RankedPool). IsPermutation es ordered) is moved) up

pub answer-got : {E : Type 0} (service : Service) (labels : List (List ℕ × List ℕ)) (pools : List CompiledPool) (answer : Result (List ℕ) E)
    → IsStrictlySortedBy name_cmp (map (λ p. p.name) pools)
    → IfOk answer (λ places. places ≡ map (λ e. e.place) (sorted ranked_cmp (ranked_from service labels 0 pools)))
    → IfOk answer (λ places. map (slice_get pools) places ≡ map (λ p. Some p) (eligible service labels pools))
answer-got service labels pools (Ok places) up is = ap (map (slice_get pools)) is ∙ places-got pools service labels up
answer-got service labels pools (Err f) up is = tt
