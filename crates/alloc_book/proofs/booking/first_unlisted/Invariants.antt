use Rattle.std.proofs.Common.{◌≡◌, ◌-◌, ◌^◌, find}
use Rattle.alloc_book.proofs.BookRemoval.{is_due}
use Rattle.alloc_book.proofs.booking.first_unlisted.Given as goal

abbrev pub invariant-loop-number : goal.invariant-loop-number
invariant-loop-number g l = find (is_due (g.L.Listing.lists l.listing) l.next) l.index.items ≡ find (is_due (g.L.Listing.lists l.listing) l.from) l.index.items

abbrev pub decreases-loop-number : goal.decreases-loop-number
decreases-loop-number g l = 2 ^ 64 - l.next
