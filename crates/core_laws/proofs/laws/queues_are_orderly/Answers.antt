use Rattle.core_laws.proofs.Queued.{queues_are_orderly}
use Rattle.core_laws.proofs.laws.queues_are_orderly.Goals as goal

pub returns : goal.returns
returns c = queues_are_orderly
