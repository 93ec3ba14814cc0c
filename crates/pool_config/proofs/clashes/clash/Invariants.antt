use Rattle.std.proofs.Common.{◌≡◌, drop, ◌&&◌}
use Rattle.std.specs.List.{list_any}
use Rattle.pool_config.specs.Search.{chooses_pool, has_equal_length}
use Rattle.pool_config.proofs.clashes.clash.Given as goal

abbrev pub invariant-loop-pool : goal.invariant-loop-pool
invariant-loop-pool l =
    list_any (λ p. (chooses_pool l.first p && chooses_pool l.second p) && list_any (has_equal_length l.first l.second) p.spans) (drop l.pool-index l.pools)
    ≡ list_any (λ p. (chooses_pool l.first p && chooses_pool l.second p) && list_any (has_equal_length l.first l.second) p.spans) l.pools
