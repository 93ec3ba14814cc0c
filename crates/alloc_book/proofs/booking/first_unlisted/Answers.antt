use Rattle.std.proofs.Common.{◌≡◌, ℕ, ◌^◌, Bool, true, false, Option, ap, sym, ◌∙◌}
use Rattle.std.specs.Option.{option_map}
use Rattle.kube_model.specs.declared.key.Key.{Key}
use Rattle.claim_index.specs.Claims.{ClaimValue}
use Rattle.alloc_book.proofs.BookRemoval.{unlisted-found, unlisted-step, unlisted-none, first-passed, falls-below}
use Rattle.alloc_book.proofs.booking.first_unlisted.Goals as goal

pub returns-then-not-lists-clause-first : goal.returns-then-not-lists-clause-first
returns-then-not-lists-clause-first g c =
    let lists : Key → Bool = g.L.Listing.lists c.args.listing.now in
    let claim : ClaimValue = c.in-Some.claim.now in
    let unlisted : lists claim.key ≡ false = ap lists (sym c.key.ensures) ∙ sym c.lists.ensures ∙ c.if-not-lists.true in
    ap (λ (o : Option (ℕ × ClaimValue)). option_map (λ p. p.0) o)
    (sym (unlisted-found lists c.args.index.now.items c.loop-number.next (c.in-Some.number, claim) (sym c.in-Some.ensures.item) unlisted)
    ∙ c.loop-number.invariant)

pub loop-number-smaller : goal.loop-number-smaller
loop-number-smaller g c =
    let claim : ClaimValue = c.in-Some.claim.now in
    falls-below (2 ^ 64) c.loop-number.next c.in-Some.number
    (first-passed c.args.index.now.items c.loop-number.next (c.in-Some.number, claim) (sym c.in-Some.ensures.item)) c.in-Some.ensures.within

pub loop-number-preserved : goal.loop-number-preserved
loop-number-preserved g c =
    let lists : Key → Bool = g.L.Listing.lists c.args.listing.now in
    let claim : ClaimValue = c.in-Some.claim.now in
    let listed : lists claim.key ≡ true = ap lists (sym c.key.ensures) ∙ sym c.lists.ensures ∙ c.if-not-lists.false in
    unlisted-step lists c.args.index.now.items c.loop-number.next (c.in-Some.number, claim) c.first_from.ensures.ascending (sym c.in-Some.ensures.item) listed
    ∙ c.loop-number.invariant

pub returns-clause-first : goal.returns-clause-first
returns-clause-first g c =
    let lists : Key → Bool = g.L.Listing.lists c.args.listing.now in
    ap (λ (o : Option (ℕ × ClaimValue)). option_map (λ p. p.0) o)
    (sym (unlisted-none lists c.args.index.now.items c.loop-number.next (sym c.in_default.ensures.item)) ∙ c.loop-number.invariant)
