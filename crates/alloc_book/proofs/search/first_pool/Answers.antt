use Rattle.std.proofs.Common.{Bor, sym, subst}
use Rattle.pool_config.specs.declared.compiled.CompiledPool.{CompiledPool}
use Rattle.alloc_book.specs.Searching.{AreAmong}
use Rattle.alloc_book.proofs.search.first_pool.Goals as goal

pub least_each-requires : goal.least_each-requires
least_each-requires c =
    subst (λ (p : Bor CompiledPool). AreAmong c.args.book.now.entries p.now) (sym c.pool-item.is)
    (c.requires c.loop-pool.pool-index _ c.loop-pool-test.true)
