use Rattle.std.proofs.Common.{◌≡◌, ◌++◌}
use Rattle.large_numbers.proofs.numbers.larges_from.Given as goal

abbrev pub invariant-loop-number : goal.invariant-loop-number
invariant-loop-number l = l.numbers ++ l.number-iterator ≡ l.set.keys
