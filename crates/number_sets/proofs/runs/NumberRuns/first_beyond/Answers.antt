use Rattle.std.proofs.Common.{◌≡◌, Some, None, IfSome, IfNone, List, refl, subst, sym, ap, ◌∙◌, arith}
use Rattle.std.specs.List.{slice_get}
use Rattle.number_sets.specs.Counts.{is_beyond}
use Rattle.number_sets.specs.Least.{IsLeastIn, NonePasses}
use Rattle.number_sets.specs.declared.runs.Run.{Run}
use Rattle.number_sets.specs.RunLists.{AreRunsFrom}
use Rattle.number_sets.specs.Runs.{RunsValue, has}
use Rattle.number_sets.proofs.CountLaws.{IsLastUpTo, last-up, past-none, beyond-none, beyond-found}
use Rattle.number_sets.proofs.runs.NumberRuns.first_beyond.Goals as goal
use Rattle.number_sets.proofs.runs.NumberRuns.first_beyond.Goals.{After-checked_sub, After-first_absent}

-- the run before the index is the last that has as many such numbers below its first as there are below the low end
last : (c : After-checked_sub) → IsLastUpTo (has c.args.self.now) (has c.args.fewer.now) c.args.self.now.runs c.args.low c.runs_up_to-index.result
unfolding has
last c =
    last-up (has c.args.self.now) (has c.args.fewer.now) c.requires c.args.self.now.runs c.args.low c.count_beyond.result c.runs_up_to-index.result
    (subst (λ (rs : List Run). AreRunsFrom 0 rs) (ap (λ (s : RunsValue). s.runs) c.self.view_is) c.self.invariant.apart) (λ n. refl)
    c.count_beyond.ensures c.runs_up_to-index.ensures.within c.runs_up_to-index.ensures.point

-- what is found in the run is the least that is sought, and where it has none, there is none
found : (c : After-first_absent)
    → IfSome c.first_absent.result (λ n. IsLeastIn (is_beyond c.args.self.now c.args.fewer.now) c.args.low c.args.high n)
    × IfNone c.first_absent.result (NonePasses (is_beyond c.args.self.now c.args.fewer.now) c.args.low c.args.high)
found c =
    let runs = c.args.self.now.runs in
    let index = c.runs_up_to-index.result in
    let i = c.in_ok-checked_sub.field-0 in
    let run = c.in_ok-run.run' in
    let up = last (goal.at.returns-clause-some c).After-checked_sub in
    let here : slice_get runs i ≡ Some run =
    ap (λ (rs : List Run). slice_get rs i) (sym (c.deref.ensures.value ∙ ap (λ (s : RunsValue). s.runs) c.self.view_is))
    ∙ sym c.run_at.ensures ∙ c.in_ok-run.was in
    beyond-found (has c.args.self.now) (has c.args.fewer.now) runs c.args.low index up i run (omega arith) here c.max.result c.min.result c.args.high
    (omega arith, omega arith, λ m from to. omega (arith, from, to)) (omega arith, omega arith, λ m from to. omega (arith, from, to))
    c.first_absent.result c.first_absent.ensures.some c.first_absent.ensures.none

pub returns-in_err-checked_sub-clause-none : goal.returns-in_err-checked_sub-clause-none
returns-in_err-checked_sub-clause-none c =
    let up = last (goal.at.returns-in_err-checked_sub-clause-none c).After-checked_sub in
    rw c.from_residual.ensures (λ m from to. beyond-none (has c.args.self.now) (has c.args.fewer.now) c.args.self.now.runs c.args.low
    c.runs_up_to-index.result up (omega arith) m)

pub returns-in_err-run-clause-none : goal.returns-in_err-run-clause-none
returns-in_err-run-clause-none c =
    let runs = c.args.self.now.runs in
    let same = c.deref.ensures.value ∙ ap (λ (s : RunsValue). s.runs) c.self.view_is in
    let past : slice_get runs c.in_ok-checked_sub.field-0 ≡ None =
    ap (λ (rs : List Run). slice_get rs c.in_ok-checked_sub.field-0) (sym same) ∙ sym c.run_at.ensures ∙ c.in_err-run.was in
    let beyond = past-none runs c.in_ok-checked_sub.field-0 past in
    absurd (omega (arith, beyond, c.runs_up_to-index.ensures.within))

pub returns-clause-some : goal.returns-clause-some
returns-clause-some c = (found c).0

pub returns-clause-none : goal.returns-clause-none
returns-clause-none c = (found c).1
