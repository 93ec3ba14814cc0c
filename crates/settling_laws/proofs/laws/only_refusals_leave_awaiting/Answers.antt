use Rattle.settling_laws.proofs.Awaiting.{starts_are_clear, moves_keep_clear}
use Rattle.settling_laws.proofs.laws.only_refusals_leave_awaiting.Goals as goal

pub returns : goal.returns
returns c = record { starts = starts_are_clear; moves = moves_keep_clear }
