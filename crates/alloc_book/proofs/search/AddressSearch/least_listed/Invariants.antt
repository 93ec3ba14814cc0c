use Rattle.std.proofs.Common.{◌≡◌, ◌-◌, drop, length}
use Rattle.alloc_book.specs.Search.{least_of}
use Rattle.alloc_book.specs.Searching.{usable_by}
use Rattle.alloc_book.proofs.search.AddressSearch.least_listed.Given as goal

abbrev pub invariant-loop-span : goal.invariant-loop-span
invariant-loop-span l =
    least_of (usable_by l.self) l.self.family (drop l.at l.self.pool.now.spans) ≡ least_of (usable_by l.self) l.self.family l.self.pool.now.spans

abbrev pub decreases-loop-span : goal.decreases-loop-span
decreases-loop-span l = length l.self.pool.now.spans - l.at
