use Rattle.alloc_book.proofs.BookLaws.{answer-settled}
use Rattle.alloc_book.proofs.booking.Book.settle_prepared.Goals as goal

pub returns-clause-loss : goal.returns-clause-loss
returns-clause-loss c =
    answer-settled c.args.self.now.claims c.put.new.self.claims c.args.claim.key c.args.claim.holding c.args.claim.terms c.put.result c.put.ensures.assigned
    c.put.ensures.claims c.put.ensures.loss
