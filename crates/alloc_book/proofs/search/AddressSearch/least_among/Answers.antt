use Rattle.std.proofs.Common.{◌≡◌, sym, ◌∙◌, ◌+◌, subst, ap, take, Some, ℕ}
use Rattle.ip_ranges.specs.Values.{AddressValue}
use Rattle.std.specs.List.{Contains}
use Rattle.alloc_book.specs.Search.{numbered}
use Rattle.alloc_book.specs.Searching.{claims_for, usable_by}
use Rattle.address_holders.specs.Holders.{address_of}
use Rattle.alloc_book.proofs.Candidates.{Ahead, met-usable, met-not_usable, all-met}
use Rattle.alloc_book.proofs.search.AddressSearch.least_among.Goals.{then-usable_number, else-usable_number}
use Rattle.alloc_book.proofs.search.AddressSearch.least_among.Goals as goal

pub loop-address-preserved : goal.loop-address-preserved
loop-address-preserved c =
    let claims = claims_for c.args.self.now in
    let test = numbered (usable_by c.args.self.now) c.args.self.now.family in
    let xs = c.args.addresses.now in
    let i = c.loop-address.address-index in
    let number : c.address.inside.number ≡ c.address-item.result.number = ap (λ (a : AddressValue). a.number) c.address.view_is in
    elim c.if-usable_number.branch [
      | then-usable_number w ↦
          subst (λ found. Ahead (λ m. Contains (take (i + 1) xs) (address_of c.args.self.now.family m)) test c.args.low c.args.high found)
          (sym (w.least-is ∙ ap (λ (n : ℕ). Some n) number))
          (met-usable claims c.args.self.now.key.now c.args.self.now.terms.now c.args.self.now.pool.now c.args.self.now.family c.args.low c.args.high _ xs i
          _ c.address-item.result c.loop-address.least (sym c.address-item.is) c.loop-address-test.true c.unwrap_or-last.ensures
          (sym c.usable_number.ensures ∙ w.if-usable_number.true) c.loop-address.invariant)
      | else-usable_number w ↦
          subst (λ found. Ahead (λ m. Contains (take (i + 1) xs) (address_of c.args.self.now.family m)) test c.args.low c.args.high found) (sym w.least-is)
          (met-not_usable claims c.args.self.now.key.now c.args.self.now.terms.now c.args.self.now.pool.now c.args.self.now.family c.args.low c.args.high _ xs i
          _ c.address-item.result c.loop-address.least (sym c.address-item.is) c.loop-address-test.true c.unwrap_or-last.ensures
          (sym c.usable_number.ensures ∙ w.if-usable_number.false) c.loop-address.invariant)
    ]

pub returns : goal.returns
returns c = all-met c.args.addresses.now c.loop-address.address-index c.args.self.now.family _ c.args.low c.args.high c.loop-address.least
    c.loop-address-test.false c.loop-address.invariant
