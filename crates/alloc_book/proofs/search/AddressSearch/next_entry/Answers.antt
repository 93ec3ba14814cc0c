use Rattle.std.proofs.Common.{◌+◌, ◌≤◌, ◌<◌, Option, ℕ, IfSome, arith, subst}
use Rattle.alloc_book.specs.Searching.{StandAt, claims_for}
use Rattle.alloc_book.proofs.Candidates.{full-unusable}
use Rattle.alloc_book.proofs.EntryLaws.{full-at}
use Rattle.alloc_book.proofs.search.AddressSearch.next_entry.Goals as goal

pub returns-clause-passed : goal.returns-clause-passed
returns-clause-passed c =
    λ k span from below at.
    let s = c.args.self.now in
    let first = c.in-Some.first in
    let place = c.in-Some-checked_add.place in
    let alone = c.is_alone.ensures c.if-not-is_alone.false in
    let stands = subst (λ (o : Option ℕ). IfSome o (StandAt s.book.now.entries s.pool.now)) c.in-Some.is c.requires.place in
    let full = rw (c.entry_claims.ensures.claims, c.entry_claims.ensures.entries) at c.first_open.ensures.full in
    let begun : place ≤ first + k = omega (arith, c.in-Some-checked_add.ensures.1, from) in
    let ended : first + k < c.first_open.result = omega (arith, below) in
    full-unusable (claims_for s) s.key.now s.terms.now s.pool.now span s.family alone.0 alone.1
    (full-at (claims_for s) s.book.now.entries s.pool.now first place c.first_open.result stands full k span begun ended at)
