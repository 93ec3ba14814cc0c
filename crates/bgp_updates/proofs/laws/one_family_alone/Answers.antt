use Rattle.bgp_updates.proofs.OneFamily.{plain-alone}
use Rattle.bgp_updates.proofs.laws.one_family_alone.Goals as goal

pub returns : goal.returns
returns c = plain-alone
