-- When a pool's turn comes, as a rank that is compared.
use Rattle.std.specs.Prelude.{◌==◌, if◌then◌else◌, Option, Some, None}
use Rattle.std.specs.declared.cmp.Ordering.{Ordering}
use Rattle.std.specs.declared.cmp.Ordering.TheVariants.{Less, Equal, Greater}
use Rattle.std.specs.Ordering.{nat_cmp, ordering_then}
use Rattle.kube_labels.specs.Names.{name_cmp}
use Rattle.pool_config.specs.declared.compiled.CompiledAllocation.{CompiledAllocation}
use Rattle.pool_config.specs.declared.compiled.CompiledPool.{CompiledPool}
use Rattle.pool_choice.specs.declared.choice.Rank.{Rank}
use Rattle.pool_choice.specs.declared.choice.Rank.TheVariants.{At, Last, Unallocated}

abbrev pub rank_by : Option CompiledAllocation → Rank
rank_by None = Unallocated
rank_by (Some a) = if a.priority == 0 then Last else At a.priority

-- by priority, 0 after every other, and then the pools without a service allocation
abbrev pub rank_of : CompiledPool → Rank
rank_of pool = rank_by pool.allocation

abbrev pub rank_cmp : Rank → Rank → Ordering
rank_cmp (At m) (At n) = nat_cmp m n
rank_cmp (At m) Last = Less
rank_cmp (At m) Unallocated = Less
rank_cmp Last (At n) = Greater
rank_cmp Last Last = Equal
rank_cmp Last Unallocated = Less
rank_cmp Unallocated (At n) = Greater
rank_cmp Unallocated Last = Greater
rank_cmp Unallocated Unallocated = Equal

-- by rank, then by name
abbrev pub pool_cmp : CompiledPool → CompiledPool → Ordering
pool_cmp p q = ordering_then (rank_cmp (rank_of p) (rank_of q)) (name_cmp p.name q.name)
