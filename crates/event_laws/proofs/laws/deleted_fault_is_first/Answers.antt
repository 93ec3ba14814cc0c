use Rattle.event_laws.proofs.Rows.{deleted_fault_is_first}
use Rattle.event_laws.proofs.laws.deleted_fault_is_first.Goals as goal

pub returns : goal.returns
returns c = deleted_fault_is_first
