use Rattle.address_holders.proofs.ClaimantLaws.{none-listed}
use Rattle.address_holders.proofs.claimants.Claimants.new.Goals as goal

pub invariant_of-result : goal.invariant_of-result
invariant_of-result c = none-listed _ _ c.new-2.ensures c.new.ensures
