use Rattle.std.proofs.Common.{◌≡◌, length}
use Rattle.alloc_book.proofs.BookRemoval.{IsThinned}
use Rattle.alloc_book.proofs.booking.remove_others.Given as goal

abbrev pub invariant-loop-other : goal.invariant-loop-other
invariant-loop-other l =
    record {
      thinned : IsThinned l.number l.initial.index.items l.index.items;
      entries : l.index.entries ≡ l.initial.index.entries;
    }

abbrev pub decreases-loop-other : goal.decreases-loop-other
decreases-loop-other l = length l.index.items
