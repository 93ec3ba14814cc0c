use Rattle.std.proofs.Common.{take}
use Rattle.std.specs.List.{Contains}
use Rattle.alloc_book.specs.Search.{numbered}
use Rattle.alloc_book.specs.Searching.{usable_by}
use Rattle.address_holders.specs.Holders.{address_of}
use Rattle.alloc_book.proofs.Candidates.{Ahead}
use Rattle.alloc_book.proofs.search.AddressSearch.least_among.Given as goal

abbrev pub invariant-loop-address : goal.invariant-loop-address
invariant-loop-address l =
    Ahead (λ m. Contains (take l.address-index l.addresses) (address_of l.self.family m)) (numbered (usable_by l.self) l.self.family) l.low l.high l.least
