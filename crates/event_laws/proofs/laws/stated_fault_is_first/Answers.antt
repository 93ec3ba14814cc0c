use Rattle.event_laws.proofs.Rows.{stated_fault_is_first}
use Rattle.event_laws.proofs.laws.stated_fault_is_first.Goals as goal

pub returns : goal.returns
returns c = stated_fault_is_first
