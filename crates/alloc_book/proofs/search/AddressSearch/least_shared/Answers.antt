use Rattle.std.proofs.Common.{true, ◌≡◌, ◌+◌, sym, ◌∙◌, arith, eqb, length, ap, List, ℕ}
use Rattle.sharing_terms.specs.declared.terms.Terms.{Terms}
use Rattle.address_holders.specs.Holders.{address_of}
use Rattle.claim_index.proofs.ShareLaws.{nil-from_empty}
use Rattle.alloc_book.proofs.Candidates.{keyless-unusable, shareable-in, shareable-more, shareable-next}
use Rattle.alloc_book.proofs.search.AddressSearch.least_shared.Goals as goal

pub returns-then-is_empty : goal.returns-then-is_empty
returns-then-is_empty c =
    let empty : eqb (length c.args.self.now.terms.now.key) 0 ≡ true =
    ap (λ (t : Terms). eqb (length t.key) 0) (sym c.terms.ensures) ∙ ap (λ (key : List ℕ). eqb (length key) 0) (sym c.as_str.ensures) ∙ sym c.is_empty.ensures
    ∙ c.if-is_empty.true in
    λ m from upto offered. keyless-unusable c.args.self.now.book.now.claims c.args.self.now.key.now c.args.self.now.terms.now c.args.self.now.pool.now
    (address_of c.args.self.now.family m) empty offered

pub first_shareable-requires : goal.first_shareable-requires
first_shareable-requires c =
    nil-from_empty c.args.self.now.terms.now c.is_empty.result
    (c.is_empty.ensures ∙ ap (λ (key : List ℕ). eqb (length key) 0) c.as_str.ensures ∙ ap (λ (t : Terms). eqb (length t.key) 0) c.terms.ensures)
    ∙ c.if-is_empty.false

pub loop-number-preserved : goal.loop-number-preserved
loop-number-preserved c =
    let s = c.args.self.now in
    let found = c.in-Some.ensures.some in
    record {
      begun = omega (arith, c.loop-number.invariant.begun, found.0);
      before = shareable-next s.book.now.claims s.key.now s.terms.now s.pool.now s.family c.args.low c.loop-number.from c.in-Some.number
          c.loop-number.invariant.before
          (shareable-in _ s.book.now.claims s.family s.terms.now c.loop-number.from c.in-Some.number c.index-index.ensures.claims found.2)
          (sym c.may_use.ensures ∙ c.if-may_use.false);
    }

pub returns-then-may_use : goal.returns-then-may_use
returns-then-may_use c =
    let s = c.args.self.now in
    let found = c.in-Some.ensures.some in (
      omega (arith, c.loop-number.invariant.begun, found.0),
      found.1,
      sym c.may_use.ensures ∙ c.if-may_use.true,
      shareable-more s.book.now.claims s.key.now s.terms.now s.pool.now s.family c.args.low c.loop-number.from c.in-Some.number
          c.loop-number.invariant.before
          (shareable-in _ s.book.now.claims s.family s.terms.now c.loop-number.from c.in-Some.number c.index-index.ensures.claims found.2),
    )

pub returns-then-number-high : goal.returns-then-number-high
returns-then-number-high c =
    let s = c.args.self.now in
    let found = c.in-Some.ensures.some in
    let last : c.in-Some.number ≡ c.args.high = c.if-number-high.true in
    let none =
    shareable-next s.book.now.claims s.key.now s.terms.now s.pool.now s.family c.args.low c.loop-number.from c.in-Some.number
    c.loop-number.invariant.before
    (shareable-in _ s.book.now.claims s.family s.terms.now c.loop-number.from c.in-Some.number c.index-index.ensures.claims found.2)
    (sym c.may_use.ensures ∙ c.if-may_use.false) in
    λ m from upto. none m from (omega (arith, upto, last))

pub returns : goal.returns
returns c =
    let s = c.args.self.now in
    let none =
    shareable-more s.book.now.claims s.key.now s.terms.now s.pool.now s.family c.args.low c.loop-number.from (c.args.high + 1)
    c.loop-number.invariant.before
    (shareable-in _ s.book.now.claims s.family s.terms.now c.loop-number.from (c.args.high + 1) c.index-index.ensures.claims c.in_default.ensures.none) in
    λ m from upto. none m from (omega (arith, upto))
