use Rattle.std.proofs.Common.{◌≡◌, length}
use Rattle.alloc_book.proofs.BookRemoval.{IsCleared}
use Rattle.alloc_book.proofs.booking.remove_unlisted.Given as goal

abbrev pub invariant-loop-number : goal.invariant-loop-number
invariant-loop-number g l =
    record {
      cleared : IsCleared (g.L.Listing.lists l.listing) l.from l.initial.index.items l.index.items;
      entries : l.index.entries ≡ l.initial.index.entries;
    }

abbrev pub decreases-loop-number : goal.decreases-loop-number
decreases-loop-number g l = length l.index.items
