use Rattle.std.proofs.Common.{◌<◌, ℕ, List, length, refl, sym, ◌∙◌, subst}
use Rattle.claim_index.specs.Claims.{ClaimValue}
use Rattle.alloc_book.proofs.BookRemoval.{IsThinned, thinned-start, thinned-step, thinned-smaller, thinned-end}
use Rattle.alloc_book.proofs.booking.remove_others.Goals as goal

pub loop-other-init : goal.loop-other-init
loop-other-init c = record { thinned = thinned-start c.args.number c.args.index.now.items; entries = refl }

pub loop-other-smaller : goal.loop-other-smaller
loop-other-smaller c =
    subst (λ (items : List (ℕ × ClaimValue)). length items < length c.loop-other.index.items) (sym c.remove.ensures.items)
    (thinned-smaller c.args.number c.in-Some.other c.loop-other.index.items (sym (rw c.claims.ensures at c.first_other.ensures.other) ∙ c.in-Some.is))

pub loop-other-preserved : goal.loop-other-preserved
loop-other-preserved c =
    record {
      thinned = subst (IsThinned c.args.number c.args.index.now.items) (sym c.remove.ensures.items)
          (thinned-step c.args.number c.in-Some.other c.args.index.now.items c.loop-other.index.items
          (rw c.claims.ensures at c.first_other.ensures.ascending)
          (sym (rw c.claims.ensures at c.first_other.ensures.other) ∙ c.in-Some.is) c.loop-other.invariant.thinned);
      entries = c.remove.ensures.entries ∙ c.loop-other.invariant.entries;
    }

pub returns-clause-items : goal.returns-clause-items
returns-clause-items c =
    thinned-end c.args.number c.args.index.now.items c.loop-other.index.items
    (sym (rw c.claims.ensures at c.first_other.ensures.other) ∙ c.in_default.is) c.loop-other.invariant.thinned

pub returns-clause-ascending : goal.returns-clause-ascending
returns-clause-ascending c = c.loop-other.invariant.thinned.ascending (rw c.claims.ensures at c.first_other.ensures.ascending)
