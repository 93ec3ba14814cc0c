use Rattle.std.proofs.Common.{◌<◌, ℕ, Bool, List, length, refl, sym, ◌∙◌, subst}
use Rattle.kube_model.specs.declared.key.Key.{Key}
use Rattle.claim_index.specs.Claims.{ClaimValue}
use Rattle.alloc_book.proofs.BookRemoval.{IsCleared, cleared-start, cleared-step, cleared-smaller, cleared-end}
use Rattle.alloc_book.proofs.booking.remove_unlisted.Goals as goal

pub loop-number-init : goal.loop-number-init
loop-number-init g c = record { cleared = cleared-start (g.L.Listing.lists c.args.listing.now) c.args.index.now.items; entries = refl }

pub loop-number-smaller : goal.loop-number-smaller
loop-number-smaller g c =
    subst (λ (items : List (ℕ × ClaimValue)). length items < length c.loop-number.index.items) (sym c.remove.ensures.items)
    (cleared-smaller (g.L.Listing.lists c.args.listing.now) c.loop-number.from c.in-Some.number c.loop-number.index.items
    (sym (rw c.claims.ensures at c.first_unlisted.ensures.first) ∙ c.in-Some.is))

pub loop-number-preserved : goal.loop-number-preserved
loop-number-preserved g c =
    let lists : Key → Bool = g.L.Listing.lists c.args.listing.now in
    record {
      cleared = subst (IsCleared lists c.in-Some.number c.args.index.now.items) (sym c.remove.ensures.items)
          (cleared-step lists c.loop-number.from c.in-Some.number c.args.index.now.items c.loop-number.index.items
          (rw c.claims.ensures at c.first_unlisted.ensures.ascending)
          (sym (rw c.claims.ensures at c.first_unlisted.ensures.first) ∙ c.in-Some.is) c.loop-number.invariant.cleared);
      entries = c.remove.ensures.entries ∙ c.loop-number.invariant.entries;
    }

pub returns-clause-items : goal.returns-clause-items
returns-clause-items g c =
    cleared-end (g.L.Listing.lists c.args.listing.now) c.loop-number.from c.args.index.now.items c.loop-number.index.items
    (sym (rw c.claims.ensures at c.first_unlisted.ensures.first) ∙ c.in_default.is) c.loop-number.invariant.cleared
