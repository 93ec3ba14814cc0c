use Rattle.core_laws.proofs.Certain.{newer_events_settle, runs_are_certain}
use Rattle.core_laws.proofs.laws.runs_are_certain.Goals as goal

pub returns : goal.returns
returns c = record { settled = runs_are_certain; newer = newer_events_settle }
