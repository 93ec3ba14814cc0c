use Rattle.std.proofs.Common.{◌≡◌, subst}
use Rattle.std.specs.Map.{values_of}
use Rattle.claim_index.specs.Claims.{AreAssigned}
use Rattle.alloc_book.proofs.BookLaws.{answer-loses}
use Rattle.alloc_book.proofs.booking.Book.loses.Goals as goal

pub returns-clause-meaning : goal.returns-clause-meaning
returns-clause-meaning c =
    let is : values_of c.index.result.now.items ≡ c.args.self.now.claims = c.index.ensures.claims in
    answer-loses c.args.self.now.claims c.args.claim.now.key c.args.claim.now.holding c.args.claim.now.terms c.loses.result
    (subst AreAssigned is c.loses.ensures.assigned) (rw is at c.loses.ensures.value)
