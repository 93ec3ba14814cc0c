use Rattle.std.proofs.Common.{◌≡◌, false, sym}
use Rattle.claim_index.specs.Claims.{has_claims}
use Rattle.core_rules.specs.Core.{shown_terms}
use Rattle.ctl_core.proofs.OtherClaims.{none-other}
use Rattle.ctl_core.proofs.state.CoreState.has_other.Goals as goal

pub returns-then-not-has_claims : goal.returns-then-not-has_claims
returns-then-not-has_claims c =
    let i = c.self.inside in
    let service = c.args.service.now in
    let none : has_claims service.key i.book.claims ≡ false = sym c.if-not-has_claims.ensures in
    rw (← c.self.view_is) (sym (none-other i.book.claims service.key service.holding (shown_terms service) none))
