use Rattle.address_holders.proofs.ClaimantLaws.{least-unclaimed, none-unclaimed}
use Rattle.address_holders.proofs.claimants.Claimants.first_unclaimed.Goals as goal

pub returns-clause-some : goal.returns-clause-some
returns-clause-some c =
    rw (← c.self.view_is) (least-unclaimed c.args.inside c.self.inside.held c.self.inside.by_number _ _ _ c.self.invariant c.first_absent.ensures.some)

pub returns-clause-none : goal.returns-clause-none
returns-clause-none c =
    rw (← c.self.view_is) (none-unclaimed c.args.inside c.self.inside.held c.self.inside.by_number _ _ _ c.self.invariant c.first_absent.ensures.none)
