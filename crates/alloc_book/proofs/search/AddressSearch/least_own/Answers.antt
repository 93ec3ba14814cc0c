use Rattle.std.proofs.Common.{ℕ, List, refl, sym, ◌+◌, subst, take}
use Rattle.ip_ranges.specs.Values.{AddressValue, has_address}
use Rattle.alloc_book.specs.Candidates.{Covers}
use Rattle.alloc_book.specs.Search.{numbered}
use Rattle.alloc_book.specs.Searching.{claims_for, usable_by}
use Rattle.alloc_book.proofs.Candidates.{Ahead, IsOneOf, met-claim, met-none, all-claims_met, none-own}
use Rattle.alloc_book.proofs.search.AddressSearch.least_own.Goals as goal

pub returns-then-not-self : goal.returns-then-not-self
returns-then-not-self c =
    none-own (claims_for c.args.self.now) c.args.self.now.key.now c.args.self.now.family
    (numbered (usable_by c.args.self.now) c.args.self.now.family) c.args.low c.args.high c.args.self.now.is_holder c.requires c.if-not-self.true

pub loop-number-preserved-in_default : goal.loop-number-preserved-in_default
loop-number-preserved-in_default c =
    let items = c.index-index.result.now.items in
    let numbers = c.numbers_of-number-items.result.now in
    met-none items numbers c.loop-number.number-index 0 _ c.args.self.now.family _ c.args.low c.args.high c.loop-number.least refl c.loop-number-test.true
    c.claim.ensures.ascending
    c.in_default.ensures.claim c.loop-number.invariant

pub loop-number-preserved : goal.loop-number-preserved
loop-number-preserved c =
    let claims = claims_for c.args.self.now in
    let test = numbered (usable_by c.args.self.now) c.args.self.now.family in
    let items = c.index-index.result.now.items in
    let numbers = c.numbers_of-number-items.result.now in
    let i = c.loop-number.number-index in
    let first = c.loop-number.least in
    let lesser = c.least_among-lesser.result in
    let among = subst (λ (xs : List AddressValue). Covers (numbered (has_address xs) c.args.self.now.family) test c.args.low c.unwrap_or-last.result lesser)
    c.addresses.ensures c.least_among-lesser.ensures in
    let here = subst (λ (last : ℕ). Covers (numbered (has_address c.in-Some.claim.now.holding.addresses) c.args.self.now.family) test c.args.low last lesser)
    c.unwrap_or-last.ensures among in
    subst (λ found. Ahead (IsOneOf items (take (i + 1) numbers) c.args.self.now.family) test c.args.low c.args.high found) (sym c.or-least.ensures)
    (met-claim items numbers i 0 _ c.in-Some.claim.now c.args.self.now.family test c.args.low c.args.high first lesser refl c.loop-number-test.true
    c.claim.ensures.ascending
    c.in-Some.ensures.claim c.loop-number.invariant here)

pub returns : goal.returns
returns c =
    all-claims_met c.index-index.result.now.items c.args.self.now.book.now.claims c.args.self.now.key.now c.numbers_of-number-items.result.now
    c.loop-number.number-index c.args.self.now.family _ c.args.low c.args.high c.loop-number.least
    (sym c.index-index.ensures.claims) c.numbers_of-number-items.ensures c.loop-number-test.false c.loop-number.invariant
