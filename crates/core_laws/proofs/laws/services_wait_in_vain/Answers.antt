use Rattle.core_laws.proofs.Waiting.{waits_in_vain}
use Rattle.core_laws.proofs.laws.services_wait_in_vain.Goals as goal

pub returns : goal.returns
returns c = waits_in_vain
