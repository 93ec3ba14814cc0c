-- The operators of set-based requirements (Kubernetes, "Labels and Selectors").
use Rattle.std.specs.Prelude.{List, ℕ, Option, Some, None, if◌then◌else◌, codes}
use Rattle.std.specs.Str.{bytes_eq}
use Rattle.kube_labels.specs.declared.operator.Operator.{Operator}
use Rattle.kube_labels.specs.declared.operator.Operator.TheVariants.{In, NotIn, Exists, DoesNotExist}

-- the operator's name
abbrev pub name_of : Operator → List ℕ
name_of In = codes "In"
name_of NotIn = codes "NotIn"
name_of Exists = codes "Exists"
name_of DoesNotExist = codes "DoesNotExist"

-- the operator of this name, letter for letter
abbrev pub operator_named : List ℕ → Option Operator
operator_named name =
    if bytes_eq name (codes "In") then Some In
    else if bytes_eq name (codes "NotIn") then Some NotIn
    else if bytes_eq name (codes "Exists") then Some Exists
    else if bytes_eq name (codes "DoesNotExist") then Some DoesNotExist
    else None
