-- Set-based requirements on labels (Kubernetes, "Labels and Selectors", and the API's LabelSelectorRequirement).
use Rattle.std.specs.Prelude.{◌≡◌, ◌≢◌, ℕ, ◌+◌, Bool, false, not, List, [], ◌∷◌, ◌++◌, length, All, Contains, Option, Some, None, is_some}
use Rattle.std.specs.Option.{option_or}
use Rattle.std.specs.List.{list_any}
use Rattle.std.specs.Str.{bytes_eq}
use Rattle.kube_labels.specs.declared.expression.Expression.{Expression}
use Rattle.kube_labels.specs.declared.fault.SelectorFault.{SelectorFault}
use Rattle.kube_labels.specs.declared.fault.SelectorFault.TheVariants.{UnknownOperator, EmptyValues, UnwantedValues}
use Rattle.kube_labels.specs.declared.operator.Operator.{Operator}
use Rattle.kube_labels.specs.declared.operator.Operator.TheVariants.{In, NotIn, Exists, DoesNotExist}
use Rattle.kube_labels.specs.Operators.{operator_named}
use Rattle.kube_labels.specs.Pairs.{value_of, HasName}

-- In and NotIn want values
abbrev pub WantsValues : Option Operator → Type 0
WantsValues (Some In) = Unit {0}
WantsValues (Some NotIn) = Unit {0}
WantsValues _ = ⊥

-- Exists and DoesNotExist want none
abbrev pub WantsNone : Option Operator → Type 0
WantsNone (Some Exists) = Unit {0}
WantsNone (Some DoesNotExist) = Unit {0}
WantsNone _ = ⊥

-- an operator with these values has this fault
abbrev pub IsFaultUnder : Option Operator → List (List ℕ) → SelectorFault → Type 0
IsFaultUnder operator values (UnknownOperator _) = operator ≡ None
IsFaultUnder operator values (EmptyValues _) = WantsValues operator × (values ≡ [])
IsFaultUnder operator values (UnwantedValues _) = WantsNone operator × (values ≢ [])

-- the expression has this fault
abbrev pub HasFault : Expression → SelectorFault → Type 0
HasFault e fault = IsFaultUnder (operator_named e.operator) e.values fault

-- the expression has no fault
abbrev pub IsWellFormed : Expression → Type 0
IsWellFormed e = (fault : SelectorFault) → ¬ HasFault e fault

-- the place that the fault names
abbrev pub place_of : SelectorFault → ℕ
place_of (UnknownOperator index) = index
place_of (EmptyValues index) = index
place_of (UnwantedValues index) = index

-- the fault is that of the expression at its place, and those before are well formed
pub record IsFirstFault (expressions : List Expression) (fault : SelectorFault) : Type 0 where
  pub before : List Expression
  pub here : Expression
  pub after : List Expression
  pub split : expressions ≡ before ++ here ∷ after
  pub place : place_of fault ≡ length before
  pub well_formed : All IsWellFormed before
  pub faulty : HasFault here fault

-- what In and NotIn say of the values: there is one at least
abbrev pub fault_if_none : ℕ → List (List ℕ) → Option SelectorFault
fault_if_none index [] = Some (EmptyValues index)
fault_if_none index (_ ∷ _) = None

-- what Exists and DoesNotExist say of the values: there is none
abbrev pub fault_if_some : ℕ → List (List ℕ) → Option SelectorFault
fault_if_some index [] = None
fault_if_some index (_ ∷ _) = Some (UnwantedValues index)

-- the fault of an operator with these values
abbrev pub fault_under : ℕ → Option Operator → List (List ℕ) → Option SelectorFault
fault_under index None values = Some (UnknownOperator index)
fault_under index (Some In) values = fault_if_none index values
fault_under index (Some NotIn) values = fault_if_none index values
fault_under index (Some Exists) values = fault_if_some index values
fault_under index (Some DoesNotExist) values = fault_if_some index values

-- the fault of the expression that stands at the index
abbrev pub fault_of : ℕ → Expression → Option SelectorFault
fault_of index e = fault_under index (operator_named e.operator) e.values

-- the fault of the first expression at fault, where the first stands at the index
abbrev pub first_fault_from : ℕ → List Expression → Option SelectorFault
first_fault_from index [] = None
first_fault_from index (e ∷ es) = option_or (fault_of index e) (first_fault_from (index + 1) es)

-- the fault of the first expression at fault
abbrev pub first_fault : List Expression → Option SelectorFault
first_fault expressions = first_fault_from 0 expressions

-- the key is there with a listed value
abbrev pub HasListed : List (List ℕ × List ℕ) → List ℕ → List (List ℕ) → Type 0
HasListed pairs key values = (value : List ℕ) × Contains values value × Contains pairs (key, value)

-- the operator, with these values listed, holds of the key
abbrev pub HoldsUnder : Option Operator → List (List ℕ × List ℕ) → List ℕ → List (List ℕ) → Type 0
HoldsUnder None pairs key values = ⊥
HoldsUnder (Some In) pairs key values = HasListed pairs key values
HoldsUnder (Some NotIn) pairs key values = ¬ HasListed pairs key values
HoldsUnder (Some Exists) pairs key values = HasName pairs key
HoldsUnder (Some DoesNotExist) pairs key values = ¬ HasName pairs key

-- the expression holds of the pairs
abbrev pub Holds : List (List ℕ × List ℕ) → Expression → Type 0
Holds pairs e = HoldsUnder (operator_named e.operator) pairs e.key e.values

-- whether there is a value, and it is listed
abbrev pub is_listed : List (List ℕ) → Option (List ℕ) → Bool
is_listed values None = false
is_listed values (Some value) = list_any (λ listed. bytes_eq listed value) values

-- `HoldsUnder` as a test of the value at the key, if there is one
abbrev pub holds_under : Option Operator → List (List ℕ) → Option (List ℕ) → Bool
holds_under None values found = false
holds_under (Some In) values found = is_listed values found
holds_under (Some NotIn) values found = not (is_listed values found)
holds_under (Some Exists) values found = is_some found
holds_under (Some DoesNotExist) values found = not (is_some found)

-- `Holds` as a test
abbrev pub holds_of : List (List ℕ × List ℕ) → Expression → Bool
holds_of pairs e = holds_under (operator_named e.operator) e.values (value_of e.key pairs)
