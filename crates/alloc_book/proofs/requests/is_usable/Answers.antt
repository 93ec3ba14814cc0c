use Rattle.std.proofs.Common.{◌&&◌, sym, ap, ◌∙◌}
use Rattle.alloc_book.specs.Asking.{asking}
use Rattle.alloc_book.specs.Choose.{all_usable}
use Rattle.alloc_book.proofs.requests.is_usable.Goals as goal

pub returns-then-is_fitting : goal.returns-then-is_fitting
returns-then-is_fitting c =
    let service = c.args.service.now in
    let usable = all_usable c.args.book.now.claims (asking service c.args.terms.now) c.args.pool.now in
    c.all_usable.ensures ∙ ap usable c.as_slice.ensures
    ∙ ap (λ b. b && usable service.holding.addresses) (sym c.if-is_fitting.true ∙ c.is_fitting.ensures)
