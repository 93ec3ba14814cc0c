use Rattle.core_laws.proofs.Claimed.{services_are_claimed}
use Rattle.core_laws.proofs.laws.services_are_claimed.Goals as goal

pub returns : goal.returns
returns c = services_are_claimed
