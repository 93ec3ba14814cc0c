-- A selector as contracts see it.
use Rattle.std.specs.Prelude.{List, ℕ}
use Rattle.kube_labels.specs.declared.expression.Expression.{Expression}

-- the pairs that must be there (matchLabels), and the expressions that must hold (matchExpressions)
pub record SelectorValue : Type 0 where
  pub pairs : List (List ℕ × List ℕ)
  pub expressions : List Expression
