use Rattle.std.proofs.Common.{◌&&◌, sym, ap, ◌∙◌}
use Rattle.alloc_book.specs.Asking.{asking}
use Rattle.alloc_book.specs.Choose.{fits_option}
use Rattle.alloc_book.proofs.requests.is_fitting.Goals as goal

pub returns-then-is_open : goal.returns-then-is_open
returns-then-is_open c =
    let service = c.args.service.now in
    let q = asking service c.args.terms.now in
    c.fits_option.ensures ∙ ap (fits_option q) c.as_slice.ensures
    ∙ ap (λ b. b && fits_option q service.holding.addresses) (sym c.if-is_open.true ∙ c.is_open.ensures)
