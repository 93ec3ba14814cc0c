use Rattle.std.proofs.Common.{◌≤◌, ◌<◌, ◌+◌, ◌-◌, ℕ}
use Rattle.alloc_book.proofs.Candidates.{NoneUsable}
use Rattle.alloc_book.proofs.search.AddressSearch.least_shared.Given as goal

abbrev pub invariant-loop-number : goal.invariant-loop-number
invariant-loop-number l =
    record {
      begun : l.low ≤ l.from;
      before : (m : ℕ) → l.low ≤ m → m < l.from → NoneUsable l.self.book.now.claims l.self.key.now l.self.terms.now l.self.pool.now l.self.family m;
    }

abbrev pub decreases-loop-number : goal.decreases-loop-number
decreases-loop-number l = l.high + 1 - l.from
