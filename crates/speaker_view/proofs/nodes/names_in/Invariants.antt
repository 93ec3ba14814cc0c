use Rattle.std.proofs.Common.{◌≡◌, ◌++◌}
use Rattle.speaker_view.proofs.nodes.names_in.Given as goal

abbrev pub invariant-loop-name : goal.invariant-loop-name
invariant-loop-name l = l.names ++ l.name-iterator ≡ l.set.keys
