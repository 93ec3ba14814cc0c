use Rattle.address_holders.proofs.ClaimantLaws.{least-held, none-held}
use Rattle.address_holders.proofs.claimants.Claimants.first_claimed.Goals as goal

pub returns-clause-some : goal.returns-clause-some
returns-clause-some c = rw (← c.self.view_is) (least-held c.self.inside.held c.self.inside.by_number _ _ _ c.self.invariant c.first_present.ensures.some)

pub returns-clause-none : goal.returns-clause-none
returns-clause-none c = rw (← c.self.view_is) (none-held c.self.inside.held c.self.inside.by_number _ _ _ c.self.invariant c.first_present.ensures.none)
