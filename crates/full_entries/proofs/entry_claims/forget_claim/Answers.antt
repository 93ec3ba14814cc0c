use Rattle.std.proofs.Common.{◌≡◌, List, Some, None, sym, subst}
use Rattle.std.specs.List.{Contains}
use Rattle.ip_ranges.specs.Values.{AddressValue}
use Rattle.claim_index.specs.Claims.{ClaimValue}
use Rattle.full_entries.proofs.FullLaws.{found-under}
use Rattle.full_entries.proofs.entry_claims.forget_claim.Goals as goal

pub returns-in_default-clause-gone : goal.returns-in_default-clause-gone
returns-in_default-clause-gone c =
    λ p there same a of.
    let one : None ≡ Some p.1 =
    found-under c.args.claims.now.items c.args.number None p c.in_default.ensures.claim c.claim.ensures.ascending there same in
    absurd (cc)

pub returns-clause-gone : goal.returns-clause-gone
returns-clause-gone c =
    λ p there same a of.
    let claim : ClaimValue = c.in-Some.claim.now in
    let one : Some claim ≡ Some p.1 =
    found-under c.args.claims.now.items c.args.number (Some claim) p c.in-Some.ensures.claim c.claim.ensures.ascending there same in
    let is : claim ≡ p.1 = cc in
    c.forget_at_each.ensures.gone a
    (subst (λ (xs : List AddressValue). Contains xs a) (sym c.addresses.ensures)
    (subst (λ (d : ClaimValue). Contains d.holding.addresses a) (sym is) of))
