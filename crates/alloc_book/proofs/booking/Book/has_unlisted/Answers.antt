use Rattle.std.proofs.Common.{Bool, List, not, is_some, ap, ◌∙◌}
use Rattle.std.specs.List.{list_any}
use Rattle.kube_model.specs.declared.key.Key.{Key}
use Rattle.claim_index.specs.Claims.{ClaimValue}
use Rattle.alloc_book.proofs.BookRemoval.{any-unlisted}
use Rattle.alloc_book.proofs.booking.Book.has_unlisted.Goals as goal

pub returns : goal.returns
returns g c =
    let lists : Key → Bool = g.L.Listing.lists c.args.listing.now in
    c.is_some.ensures ∙ ap is_some c.first_unlisted.ensures.first ∙ any-unlisted lists c.index.result.now.items
    ∙ ap (λ (cs : List ClaimValue). list_any (λ (x : ClaimValue). not (lists x.key)) cs) c.index.ensures.claims
