use Rattle.std.proofs.Common.{sym, ◌∙◌}
use Rattle.alloc_book.proofs.BookRemoval.{all-none, all-left, first-none, first-some}
use Rattle.alloc_book.proofs.booking.remove_all.Goals as goal

pub returns-in_default-clause-items : goal.returns-in_default-clause-items
returns-in_default-clause-items c =
    all-none c.args.key.now c.args.index.now.items
    (sym (rw c.claims.ensures at c.numbers_of.ensures) ∙ first-none c.numbers_of.result.now c.in_default.ensures.value)

pub returns-clause-items : goal.returns-clause-items
returns-clause-items c =
    let first = first-some c.numbers_of.result.now c.in-Some.number.now c.in-Some.ensures.value in
    c.remove.ensures.items
    ∙ all-left c.args.key.now c.in-Some.number.now first.0 c.args.index.now.items c.remove_others.new.index.items c.remove_others.ensures.ascending
    (sym (rw c.claims.ensures at c.numbers_of.ensures) ∙ first.1) c.remove_others.ensures.items
