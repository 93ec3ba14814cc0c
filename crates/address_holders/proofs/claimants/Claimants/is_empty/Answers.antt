use Rattle.address_holders.proofs.ClaimantLaws.{none-left, none-held-there}
use Rattle.address_holders.proofs.claimants.Claimants.is_empty.Goals as goal

pub returns : goal.returns
returns c = rw (← c.self.view_is) (
  λ empty. none-left c.self.inside.held c.self.inside.by_number c.self.invariant (c.is_empty.ensures.0 empty),
  λ none. c.is_empty.ensures.1 (none-held-there c.self.inside.held c.self.inside.by_number c.self.invariant none),
)
