use Rattle.run_laws.proofs.Runs.{chained_runs_are_safe}
use Rattle.run_laws.proofs.laws.chained_runs_are_safe.Goals as goal

pub returns : goal.returns
returns c = chained_runs_are_safe
