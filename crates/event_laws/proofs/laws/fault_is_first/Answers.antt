use Rattle.event_laws.proofs.Rows.{fault_is_first}
use Rattle.event_laws.proofs.laws.fault_is_first.Goals as goal

pub returns : goal.returns
returns c = fault_is_first
