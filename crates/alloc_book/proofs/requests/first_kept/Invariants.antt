use Rattle.std.proofs.Common.{◌≡◌, drop, find, []}
use Rattle.alloc_book.specs.Asking.{asking, offering}
use Rattle.alloc_book.specs.Choose.{is_kept}
use Rattle.alloc_book.proofs.requests.first_kept.Given as goal

abbrev pub invariant-loop-pool : goal.invariant-loop-pool
invariant-loop-pool l = find (is_kept l.book.claims (offering [] [] l.service l.namespace) (asking l.service l.terms)) (drop l.pool-index l.pools)
    ≡ find (is_kept l.book.claims (offering [] [] l.service l.namespace) (asking l.service l.terms)) l.pools
