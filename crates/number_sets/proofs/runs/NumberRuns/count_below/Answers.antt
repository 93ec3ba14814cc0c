use Rattle.std.proofs.Common.{◌≡◌, ◌≤◌, ◌+◌, ◌-◌, ◌∙◌, Some, None, take, vec_capacity, arith}
use Rattle.std.proofs.Math.Nat.{min-le_left}
use Rattle.std.specs.List.{slice_get}
use Rattle.std.proofs.lemmas.Option.{slice_get_within}
use Rattle.number_sets.specs.RunLists.{IsFound, count_numbers}
use Rattle.number_sets.specs.Runs.{has}
use Rattle.number_sets.proofs.CountLaws.{counted-past, counted-at, get-any, run-held}
use Rattle.number_sets.proofs.RunLaws.{ends-from}
use Rattle.number_sets.proofs.runs.NumberRuns.count_below.Goals as goal
use Rattle.number_sets.proofs.runs.NumberRuns.count_below.Goals.{After-saturating_sub}

-- the run at the index that was found, and how many numbers are in those before it
counted : (c : After-saturating_sub)
    → IsFound c.args.number c.self.inside.runs.items c.first_from-index.result
    × (slice_get c.self.inside.runs.items c.first_from-index.result ≡ Some c.in-Some.run')
    × (c.index.result.now ≡ count_numbers (take c.first_from-index.result c.self.inside.runs.items))
counted c =
    let runs = c.self.inside.runs.items in
    let i = c.first_from-index.result in
    let here : slice_get runs i ≡ Some c.in-Some.run' = cc in
    let within = slice_get_within runs i c.in-Some.run' here in (
      rw c.deref.ensures.value at c.first_from-index.ensures,
      here,
      c.index.ensures ∙ get-any c.self.inside.before.items i c.index.result.now 0 (omega (arith, within, c.self.invariant.each))
          ∙ c.self.invariant.ahead i within,
    )

-- they and those of the run that are below the number are no more than there is memory for
fits : (c : After-saturating_sub) → c.index.result.now + (c.args.number - c.in-Some.run'.first) ≤ vec_capacity c.self.inside.runs
fits c =
    let runs = c.self.inside.runs.items in
    let i = c.first_from-index.result in
    let (found, here, is) = counted c in
    omega (
      arith,
      is,
      run-held runs i c.in-Some.run' here,
      ends-from c.args.number runs i c.in-Some.run' found.point here,
      c.self.invariant.counted,
      c.self.invariant.within,
      min-le_left (vec_capacity c.self.inside.runs) (vec_capacity c.self.inside.before),
    )

pub overflow_cast-result : goal.overflow_cast-result
overflow_cast-result c = omega (arith, fits c, c.saturating_sub.ensures, c.self.inside.runs.ok)

pub overflow_add-result : goal.overflow_add-result
overflow_add-result c = omega (arith, fits c, c.saturating_sub.ensures, c.self.inside.runs.ok)

pub returns-in-Some : goal.returns-in-Some
unfolding has
returns-in-Some c =
    let (found, here, is) = counted c in
    let below = counted-at c.args.number c.self.inside.runs.items c.first_from-index.result found c.in-Some.run' here in
    rw (← c.self.view_is) (omega (arith, is, below, c.saturating_sub.ensures))

pub returns-in-None : goal.returns-in-None
unfolding has
returns-in-None c =
    let runs = c.self.inside.runs.items in
    let i = c.first_from-index.result in
    let found = rw c.deref.ensures.value at c.first_from-index.ensures in
    let past : slice_get runs i ≡ None = cc in
    let below = counted-past c.args.number runs i found past in
    rw (← c.self.view_is) (omega (arith, below, c.self.invariant.counted))
