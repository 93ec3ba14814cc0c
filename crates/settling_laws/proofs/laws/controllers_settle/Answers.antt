use Rattle.settling_laws.proofs.ConfigRest.{controllers_configure}
use Rattle.settling_laws.proofs.Settles.{controllers_settle}
use Rattle.settling_laws.proofs.Starts.{starts_settle}
use Rattle.settling_laws.proofs.laws.controllers_settle.Goals as goal

pub returns : goal.returns
returns c = record { settle = controllers_settle; configure = controllers_configure; starts = starts_settle }
