use Rattle.std.proofs.Common.{rules}
use Rattle.lane_run.proofs.threads.run_threads.Goals as goal

pub returns-clause-behind : goal.returns-clause-behind
returns-clause-behind g c = search rules depth 8 fits 20000
