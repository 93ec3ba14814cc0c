use Rattle.std.proofs.Common.{◌≡◌, Some, None, sym, ◌∙◌, arith}
use Rattle.std.specs.List.{slice_get}
use Rattle.number_sets.proofs.RunLaws.{none-past, none-ahead, has-start, has-first}
use Rattle.number_sets.proofs.runs.first_of.Goals as goal

pub returns-in_err-run-clause-none : goal.returns-in_err-run-clause-none
returns-in_err-run-clause-none c =
    let none : slice_get c.args.runs.now c.first_from.result ≡ None = sym c.run_at.ensures ∙ c.in_err-run.was in
    rw c.from_residual.ensures (λ m from to. none-past c.args.low c.args.runs.now c.first_from.result c.first_from.ensures none m from)

pub returns-then-high-run-clause-none : goal.returns-then-high-run-clause-none
returns-then-high-run-clause-none c =
    let here : slice_get c.args.runs.now c.first_from.result ≡ Some c.in_ok-run.run' = sym c.run_at.ensures ∙ c.in_ok-run.was in
    (λ m from to.
    none-ahead c.args.low c.args.runs.now c.first_from.result c.first_from.ensures c.in_ok-run.run' here m from (omega (arith, to, c.if-high-run.true)))

pub returns-then-run-low-clause-some : goal.returns-then-run-low-clause-some
returns-then-run-low-clause-some c =
    let here : slice_get c.args.runs.now c.first_from.result ≡ Some c.in_ok-run.run' = sym c.run_at.ensures ∙ c.in_ok-run.was in (
      omega arith,
      omega (arith, c.if-high-low.false),
      has-start c.args.low c.args.runs.now c.first_from.result c.first_from.ensures c.in_ok-run.run' here c.if-run-low.true,
      λ m from below. absurd (omega (arith, from, below)),
    )

pub returns-else-run-low-clause-some : goal.returns-else-run-low-clause-some
returns-else-run-low-clause-some c =
    let here : slice_get c.args.runs.now c.first_from.result ≡ Some c.in_ok-run.run' = sym c.run_at.ensures ∙ c.in_ok-run.was in (
      omega (arith, c.if-run-low.false),
      omega (arith, c.if-high-run.false),
      has-first c.args.low c.args.runs.now c.first_from.result c.first_from.ensures c.in_ok-run.run' here,
      λ m from below. none-ahead c.args.low c.args.runs.now c.first_from.result c.first_from.ensures c.in_ok-run.run' here m from below,
    )
