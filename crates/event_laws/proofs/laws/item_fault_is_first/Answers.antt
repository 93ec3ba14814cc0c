use Rattle.event_laws.proofs.PartLaws.{item_faults_are_first}
use Rattle.event_laws.proofs.laws.item_fault_is_first.Goals as goal

pub returns : goal.returns
returns c = item_faults_are_first
