use Rattle.std.proofs.Common.{ℕ, List, Bool, filter, ap, ◌∙◌}
use Rattle.std.specs.Map.{values_of}
use Rattle.kube_model.specs.declared.key.Key.{Key}
use Rattle.alloc_book.specs.Book.{BookValue}
use Rattle.claim_index.specs.Claims.{ClaimValue}
use Rattle.alloc_book.proofs.BookRemoval.{values-filter}
use Rattle.alloc_book.proofs.booking.Book.drop_unlisted.Goals as goal

pub returns-clause-claims : goal.returns-clause-claims
returns-clause-claims g c =
    let lists : Key → Bool = g.L.Listing.lists c.args.listing.now in
    ap (λ (items : List (ℕ × ClaimValue)). values_of items) c.remove_unlisted.ensures.items
    ∙ values-filter (λ (x : ClaimValue). lists x.key) c.self.inside.index.items
    ∙ ap (λ (b : BookValue). filter (λ (x : ClaimValue). lists x.key) b.claims) c.self.view_is
