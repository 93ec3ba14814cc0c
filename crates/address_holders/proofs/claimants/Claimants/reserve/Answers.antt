use Rattle.std.proofs.Common.{refl}
use Rattle.address_holders.proofs.ClaimantLaws.{same-listed}
use Rattle.address_holders.proofs.claimants.Claimants.reserve.Goals as goal

pub invariant_of-self : goal.invariant_of-self
invariant_of-self c = same-listed c.self.inside.held _ c.self.inside.by_number _ refl c.reserve.ensures.numbers c.self.invariant

pub returns-in_err-reserve-clause-numbers : goal.returns-in_err-reserve-clause-numbers
returns-in_err-reserve-clause-numbers c = rw (← c.self.view_is) c.reserve.ensures.numbers

pub invariant_of-self-2 : goal.invariant_of-self-2
invariant_of-self-2 c = same-listed c.self.inside.held _ c.self.inside.by_number _ c.reserve-2.ensures.has c.reserve.ensures.numbers c.self.invariant

pub returns-clause-numbers : goal.returns-clause-numbers
returns-clause-numbers c = rw (← c.self.view_is) c.reserve.ensures.numbers
