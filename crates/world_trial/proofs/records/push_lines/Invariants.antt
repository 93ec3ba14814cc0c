use Rattle.std.proofs.Common.{◌≡◌, ◌++◌, drop}
use Rattle.world_trial.specs.Lines.{lines_in}
use Rattle.world_trial.proofs.records.push_lines.Given as goal

abbrev pub invariant-loop-held : goal.invariant-loop-held
invariant-loop-held l = l.lines ++ lines_in (drop l.held-index l.stored) ≡ l.fn.lines ++ lines_in l.stored
