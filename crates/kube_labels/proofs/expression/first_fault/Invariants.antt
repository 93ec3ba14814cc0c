use Rattle.std.proofs.Common.{◌≡◌, drop}
use Rattle.kube_labels.specs.Expressions.{first_fault, first_fault_from}
use Rattle.kube_labels.proofs.expression.first_fault.Given as goal

-- none before is at fault
abbrev pub invariant-loop-index : goal.invariant-loop-index
invariant-loop-index l = first_fault_from l.index (drop l.index l.expressions) ≡ first_fault l.expressions
