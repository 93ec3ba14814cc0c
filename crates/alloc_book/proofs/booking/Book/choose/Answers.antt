use Rattle.claim_index.specs.Claims.{holders}
use Rattle.alloc_book.proofs.ChooseLaws.{answer-chosen, answer-only, answer-marked}
use Rattle.alloc_book.proofs.booking.Book.choose.Goals as goal

pub returns-clause-chosen : goal.returns-clause-chosen
returns-clause-chosen c = answer-chosen c.args.self.now.claims _ _ c.args.service.now c.choose.result c.choose.ensures.value

pub returns-clause-only : goal.returns-clause-only
returns-clause-only c =
    answer-only (holders c.args.self.now.claims) _ _ c.args.service.now c.choose.result
    (answer-chosen c.args.self.now.claims _ _ c.args.service.now c.choose.result c.choose.ensures.value)

pub returns-clause-marked : goal.returns-clause-marked
returns-clause-marked c =
    answer-marked (holders c.args.self.now.claims) _ _ c.args.service.now c.choose.result
    (answer-chosen c.args.self.now.claims _ _ c.args.service.now c.choose.result c.choose.ensures.value) c.choose.ensures.terms
