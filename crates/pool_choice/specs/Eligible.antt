-- Which pools serve a service that asks for none, and in which order.
use Rattle.std.specs.Prelude.{◌≡◌, ◌≢◌, ◌↔◌, ℕ, ◌+◌, ◌<◌, Bool, true, ◌&&◌, if◌then◌else◌, List, [], ◌∷◌}
use Rattle.std.specs.Prelude.{◌⊎◌, Option, Some, None, filter, AllPairs, Contains, ⊤}
use Rattle.std.specs.declared.cmp.Ordering.{Ordering}
use Rattle.std.specs.declared.cmp.Ordering.TheVariants.{Less}
use Rattle.std.specs.Ordering.{nat_cmp, ordering_then}
use Rattle.kube_labels.specs.Names.{name_cmp}
use Rattle.kube_model.specs.declared.service.Service.{Service}
use Rattle.pool_config.specs.declared.compiled.CompiledAllocation.{CompiledAllocation}
use Rattle.pool_config.specs.declared.compiled.CompiledPool.{CompiledPool}
use Rattle.pool_choice.specs.declared.choice.RankedPool.{RankedPool}
use Rattle.pool_choice.specs.Rank.{rank_of, rank_cmp, pool_cmp}
use Rattle.pool_choice.specs.Serving.{Serves, serves}
use Rattle.pool_choice.specs.Sorted.{sorted}

-- the smaller priority is the sooner one, and 0 comes after every other
abbrev pub IsSooner : ℕ → ℕ → Type 0
IsSooner m n = (m ≢ 0) × ((n ≡ 0) ⊎ (m < n))

-- names ascend by their bytes
abbrev pub IsNameBefore : List ℕ → List ℕ → Type 0
IsNameBefore a b = name_cmp a b ≡ Less

-- a pool with a service allocation stands before one without; two with one go by priority, and where that is equal by name; two
-- without go by name
abbrev pub StandsBy : Option CompiledAllocation → Option CompiledAllocation → List ℕ → List ℕ → Type 0
StandsBy (Some a) None p q = ⊤
StandsBy None (Some b) p q = ⊥
StandsBy (Some a) (Some b) p q = IsSooner a.priority b.priority ⊎ ((a.priority ≡ b.priority) × IsNameBefore p q)
StandsBy None None p q = IsNameBefore p q

abbrev pub StandsBefore : CompiledPool → CompiledPool → Type 0
StandsBefore p q = StandsBy p.allocation q.allocation p.name q.name

-- it gives addresses unasked (`spec.autoAssign`), and serves the service
abbrev pub IsOffered : Service → List (List ℕ × List ℕ) → CompiledPool → Type 0
IsOffered service labels pool = (pool.auto_assign ≡ true) × Serves service labels pool

-- The pools found are exactly those that are offered to the service; each stands before those after it, so it is there once.
pub record AreEligible (service : Service) (labels : List (List ℕ × List ℕ)) (pools found : List CompiledPool) : Type 0 where
  pub ordered : AllPairs StandsBefore found
  pub exact : (pool : CompiledPool) → Contains found pool ↔ (Contains pools pool × IsOffered service labels pool)

abbrev pub is_offered : Service → List (List ℕ × List ℕ) → CompiledPool → Bool
is_offered service labels pool = pool.auto_assign && serves service labels pool

-- those that are offered, by rank and then by name
abbrev pub eligible : Service → List (List ℕ × List ℕ) → List CompiledPool → List CompiledPool
eligible service labels pools = sorted pool_cmp (filter (is_offered service labels) pools)

-- The same by the places of the pools, of which the first is that of the head.
abbrev pub ranked_from : Service → List (List ℕ × List ℕ) → ℕ → List CompiledPool → List RankedPool
ranked_from service labels place [] = []
ranked_from service labels place (pool ∷ pools) =
    if is_offered service labels pool
    then record { rank = rank_of pool; place = place } ∷ ranked_from service labels (place + 1) pools
    else ranked_from service labels (place + 1) pools

-- by rank, then by place
abbrev pub ranked_cmp : RankedPool → RankedPool → Ordering
ranked_cmp e f = ordering_then (rank_cmp e.rank f.rank) (nat_cmp e.place f.place)
