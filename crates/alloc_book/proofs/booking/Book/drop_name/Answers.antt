use Rattle.alloc_book.proofs.BookLaws.{answer-dropped}
use Rattle.alloc_book.proofs.booking.Book.drop_name.Goals as goal

pub returns-clause-loss : goal.returns-clause-loss
returns-clause-loss c =
    answer-dropped c.args.self.now.claims c.remove.new.self.claims c.args.key.now c.remove.result c.remove.ensures.claims c.remove.ensures.loss
