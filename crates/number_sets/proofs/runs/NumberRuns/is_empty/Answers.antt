use Rattle.std.proofs.Common.{◌≡◌, length, arith}
use Rattle.number_sets.specs.Runs.{has}
use Rattle.number_sets.proofs.RunLaws.{no-runs}
use Rattle.number_sets.proofs.runs.NumberRuns.is_empty.Goals as goal

pub returns : goal.returns
unfolding has
returns c =
    let runs = c.self.inside.runs in
    let counted : runs.len ≡ length runs.items = omega (arith, runs.ok) in
    rw (← c.self.view_is, c.is_empty.ensures) (no-runs runs.items runs.len counted c.self.invariant.apart)
