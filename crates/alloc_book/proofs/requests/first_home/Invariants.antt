use Rattle.std.proofs.Common.{◌≡◌, drop, find, []}
use Rattle.alloc_book.specs.Asking.{asking, offering}
use Rattle.alloc_book.specs.Choose.{is_home}
use Rattle.alloc_book.proofs.requests.first_home.Given as goal

abbrev pub invariant-loop-pool : goal.invariant-loop-pool
invariant-loop-pool l = find (is_home (offering [] [] l.service l.namespace) (asking l.service l.terms)) (drop l.pool-index l.pools)
    ≡ find (is_home (offering [] [] l.service l.namespace) (asking l.service l.terms)) l.pools
