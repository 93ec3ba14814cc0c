-- Label selectors (Kubernetes, "Labels and Selectors", and the API's LabelSelector).
use Rattle.std.specs.Prelude.{List, ℕ, Bool, ◌&&◌, Option, Some, None, Result, Ok, Err, All, Contains}
use Rattle.std.specs.List.{list_all, list_any}
use Rattle.kube_labels.specs.declared.expression.Expression.{Expression}
use Rattle.kube_labels.specs.declared.fault.SelectorFault.{SelectorFault}
use Rattle.kube_labels.specs.Expressions.{first_fault, Holds, holds_of}
use Rattle.kube_labels.specs.Pairs.{has_pair}
use Rattle.kube_labels.specs.SelectorValue.{SelectorValue}

-- the value, unless there is a fault
abbrev pub unless_fault : Option SelectorFault → SelectorValue → Result SelectorValue SelectorFault
unless_fault None value = Ok value
unless_fault (Some fault) value = Err fault

-- the selector of these pairs and expressions, or the fault of the first expression at fault
abbrev pub selector_of : List (List ℕ × List ℕ) → List Expression → Result SelectorValue SelectorFault
selector_of pairs expressions = unless_fault (first_fault expressions) (record { pairs = pairs; expressions = expressions })

-- the selector matches the pairs: each pair that it wants is among them, and each of its expressions holds
abbrev pub Matches : SelectorValue → List (List ℕ × List ℕ) → Type 0
Matches selector pairs = All (Contains pairs) selector.pairs × All (Holds pairs) selector.expressions

-- `Matches` as a test
abbrev pub matches : SelectorValue → List (List ℕ × List ℕ) → Bool
matches selector pairs = list_all (has_pair pairs) selector.pairs && list_all (holds_of pairs) selector.expressions

-- whether one of the selectors matches the pairs
abbrev pub any_matches : List SelectorValue → List (List ℕ × List ℕ) → Bool
any_matches selectors pairs = list_any (λ selector. matches selector pairs) selectors
