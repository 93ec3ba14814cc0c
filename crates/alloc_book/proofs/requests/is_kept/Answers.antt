use Rattle.std.proofs.Common.{◌&&◌, ◌||◌, not, List, sym, ap, ◌∙◌}
use Rattle.ip_ranges.specs.Values.{AddressValue}
use Rattle.alloc_book.specs.Asking.{asked_in, is_asked}
use Rattle.alloc_book.specs.Choose.{same_addresses}
use Rattle.alloc_book.proofs.requests.is_kept.Goals as goal

pub returns-then-is_usable : goal.returns-then-is_usable
returns-then-is_usable c =
    let service = c.args.service.now in
    c.is_as_asked.ensures
    ∙ ap (λ (xs : List AddressValue). not (is_asked service.wanted) || same_addresses xs (asked_in service.wanted)) c.as_slice.ensures
    ∙ ap (λ b. b && (not (is_asked service.wanted) || same_addresses service.holding.addresses (asked_in service.wanted)))
    (sym c.if-is_usable.true ∙ c.is_usable.ensures)
