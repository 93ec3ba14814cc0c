use Rattle.std.proofs.Common.{arith}
use Rattle.number_sets.proofs.RunLaws.{no_more}
use Rattle.number_sets.proofs.runs.NumberRuns.reserve.Goals as goal

pub overflow_sub-self-inside : goal.overflow_sub-self-inside
overflow_sub-self-inside c = omega (arith, no_more 0 c.self.inside.runs.items c.self.invariant.apart, c.self.inside.runs.ok)
