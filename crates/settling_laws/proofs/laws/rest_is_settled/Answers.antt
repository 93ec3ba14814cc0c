use Rattle.settling_laws.proofs.ConfigRest.{rest_is_configured}
use Rattle.settling_laws.proofs.Rest.{rest_is_settled}
use Rattle.settling_laws.proofs.laws.rest_is_settled.Goals as goal

pub returns : goal.returns
returns c = record { settled = rest_is_settled; configured = rest_is_configured }
