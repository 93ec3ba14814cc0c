use Rattle.std.proofs.Common.{take}
use Rattle.alloc_book.specs.Search.{numbered}
use Rattle.alloc_book.specs.Searching.{usable_by}
use Rattle.alloc_book.proofs.Candidates.{Ahead, IsOneOf}
use Rattle.alloc_book.proofs.search.AddressSearch.least_own.Given as goal

abbrev pub invariant-loop-number : goal.invariant-loop-number
invariant-loop-number l =
    Ahead (IsOneOf l.index.items (take l.number-index l.number-items) l.self.family) (numbered (usable_by l.self) l.self.family) l.low l.high l.least
