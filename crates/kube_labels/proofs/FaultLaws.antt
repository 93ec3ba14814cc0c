-- The first fault, as a function and as a relation.
use Rattle.std.proofs.Common.{◌≡◌, ℕ, ◌+◌, List, [], ◌∷◌, ◌++◌, length, refl, sym, ap, subst, ◌∙◌, Option}
use Rattle.std.proofs.Common.{Some, None, is_none, Decides, Result, Err, All, IsOk, ◌↔◌, arith}
use Rattle.std.specs.Option.{option_or}
use Rattle.std.proofs.lemmas.List.Elements.{All-nil, All-cons, All-head, All-tail}
use Rattle.kube_labels.specs.declared.expression.Expression.{Expression}
use Rattle.kube_labels.specs.declared.fault.SelectorFault.{SelectorFault}
use Rattle.kube_labels.specs.declared.fault.SelectorFault.TheVariants.{UnknownOperator, EmptyValues, UnwantedValues}
use Rattle.kube_labels.specs.declared.operator.Operator.{Operator}
use Rattle.kube_labels.specs.declared.operator.Operator.TheVariants.{In, NotIn, Exists, DoesNotExist}
use Rattle.kube_labels.specs.Operators.{operator_named}
use Rattle.kube_labels.specs.Expressions.{IsFaultUnder, HasFault, IsWellFormed, IsFirstFault, place_of, fault_under, fault_of, first_fault_from, first_fault}
use Rattle.kube_labels.specs.SelectorValue.{SelectorValue}
use Rattle.kube_labels.specs.Selectors.{unless_fault, selector_of}

-- ---- one expression

-- the fault of the operator and the values, which stands at the index
abbrev IsTold : ℕ → Option Operator → List (List ℕ) → SelectorFault → Type 0
IsTold index o values fault = IsFaultUnder o values fault × (place_of fault ≡ index)

given : (index : ℕ) (o : Option Operator) (values : List (List ℕ)) (f fault : SelectorFault) → IsTold index o values f → Some f ≡ Some fault
    → IsTold index o values fault
given index o values f fault told h =
    let same : f ≡ fault = cc in
    let P : SelectorFault → Type 0 = λ x. IsTold index o values x in
    subst P same told

told_under : (index : ℕ) (o : Option Operator) (values : List (List ℕ)) (fault : SelectorFault) → fault_under index o values ≡ Some fault
    → IsTold index o values fault
told_under index None values fault h = given index None values (UnknownOperator index) fault (refl, refl) h
told_under index (Some In) [] fault h = given index (Some In) [] (EmptyValues index) fault ((tt, refl), refl) h
told_under index (Some In) (v ∷ vs) fault h = absurd (cc)
told_under index (Some NotIn) [] fault h = given index (Some NotIn) [] (EmptyValues index) fault ((tt, refl), refl) h
told_under index (Some NotIn) (v ∷ vs) fault h = absurd (cc)
told_under index (Some Exists) [] fault h = absurd (cc)
told_under index (Some Exists) (v ∷ vs) fault h = given index (Some Exists) (v ∷ vs) (UnwantedValues index) fault ((tt, λ e. cc), refl) h
told_under index (Some DoesNotExist) [] fault h = absurd (cc)
told_under index (Some DoesNotExist) (v ∷ vs) fault h = given index (Some DoesNotExist) (v ∷ vs) (UnwantedValues index) fault ((tt, λ e. cc), refl) h

fault_under_told : (index : ℕ) (o : Option Operator) (values : List (List ℕ)) (fault : SelectorFault) → IsTold index o values fault
    → fault_under index o values ≡ Some fault
fault_under_told index None values (UnknownOperator i) h = ap (λ k. Some (UnknownOperator k)) (sym h.1)
fault_under_told index None values (EmptyValues i) h = absurd h.0.0
fault_under_told index None values (UnwantedValues i) h = absurd h.0.0
fault_under_told index (Some In) values (UnknownOperator i) h = let e : Some In ≡ None = h.0 in absurd (cc)
fault_under_told index (Some In) [] (EmptyValues i) h = ap (λ k. Some (EmptyValues k)) (sym h.1)
fault_under_told index (Some In) (v ∷ vs) (EmptyValues i) h = let e : v ∷ vs ≡ [] = h.0.1 in absurd (cc)
fault_under_told index (Some In) values (UnwantedValues i) h = absurd h.0.0
fault_under_told index (Some NotIn) values (UnknownOperator i) h = let e : Some NotIn ≡ None = h.0 in absurd (cc)
fault_under_told index (Some NotIn) [] (EmptyValues i) h = ap (λ k. Some (EmptyValues k)) (sym h.1)
fault_under_told index (Some NotIn) (v ∷ vs) (EmptyValues i) h = let e : v ∷ vs ≡ [] = h.0.1 in absurd (cc)
fault_under_told index (Some NotIn) values (UnwantedValues i) h = absurd h.0.0
fault_under_told index (Some Exists) values (UnknownOperator i) h = let e : Some Exists ≡ None = h.0 in absurd (cc)
fault_under_told index (Some Exists) values (EmptyValues i) h = absurd h.0.0
fault_under_told index (Some Exists) [] (UnwantedValues i) h = absurd (h.0.1 refl)
fault_under_told index (Some Exists) (v ∷ vs) (UnwantedValues i) h = ap (λ k. Some (UnwantedValues k)) (sym h.1)
fault_under_told index (Some DoesNotExist) values (UnknownOperator i) h = let e : Some DoesNotExist ≡ None = h.0 in absurd (cc)
fault_under_told index (Some DoesNotExist) values (EmptyValues i) h = absurd h.0.0
fault_under_told index (Some DoesNotExist) [] (UnwantedValues i) h = absurd (h.0.1 refl)
fault_under_told index (Some DoesNotExist) (v ∷ vs) (UnwantedValues i) h = ap (λ k. Some (UnwantedValues k)) (sym h.1)

-- whether there is a fault is not a matter of the place
none_anywhere : (i j : ℕ) (o : Option Operator) (values : List (List ℕ)) → fault_under i o values ≡ None → fault_under j o values ≡ None
none_anywhere i j None values h = absurd (cc)
none_anywhere i j (Some In) [] h = absurd (cc)
none_anywhere i j (Some In) (v ∷ vs) h = refl
none_anywhere i j (Some NotIn) [] h = absurd (cc)
none_anywhere i j (Some NotIn) (v ∷ vs) h = refl
none_anywhere i j (Some Exists) [] h = refl
none_anywhere i j (Some Exists) (v ∷ vs) h = absurd (cc)
none_anywhere i j (Some DoesNotExist) [] h = refl
none_anywhere i j (Some DoesNotExist) (v ∷ vs) h = absurd (cc)

well_formed_from_none : (index : ℕ) (e : Expression) → fault_of index e ≡ None → IsWellFormed e
well_formed_from_none index e h = λ fault has.
    let none : fault_under (place_of fault) (operator_named e.operator) e.values ≡ None =
    none_anywhere index (place_of fault) (operator_named e.operator) e.values h in
    let some : fault_under (place_of fault) (operator_named e.operator) e.values ≡ Some fault =
    fault_under_told (place_of fault) (operator_named e.operator) e.values fault (has, refl) in
    cc

none_or : (x : Option SelectorFault) → ((fault : SelectorFault) → ¬ (x ≡ Some fault)) → x ≡ None
none_or None h = refl
none_or (Some fault) h = absurd (h fault refl)

none_from_well_formed : (index : ℕ) (e : Expression) → IsWellFormed e → fault_of index e ≡ None
none_from_well_formed index e formed = none_or (fault_of index e) (λ fault h. formed fault (told_under index (operator_named e.operator) e.values fault h).0)

-- ---- the expressions, the first of which stands at the index

abbrev IsFirstFrom : ℕ → List Expression → SelectorFault → Type 0
IsFirstFrom index es fault =
    (before : List Expression) × (here : Expression) × (after : List Expression) × (es ≡ before ++ here ∷ after) × (place_of fault ≡ index + length before)
    × All IsWellFormed before × HasFault here fault

first_step : (x : Option SelectorFault) (index : ℕ) (e : Expression) (es : List Expression) (fault : SelectorFault) → fault_of index e ≡ x
    → (first_fault_from (index + 1) es ≡ Some fault → IsFirstFrom (index + 1) es fault) → option_or x (first_fault_from (index + 1) es) ≡ Some fault
    → IsFirstFrom index (e ∷ es) fault
first_step None index e es fault is later h =
    let l = later h in
    (e ∷ l.0, l.1, l.2, ap (◌∷◌ e) l.3, omega (arith, l.4), All-cons IsWellFormed e l.0 (well_formed_from_none index e is) l.5, l.6)
first_step (Some f) index e es fault is later h =
    let told = told_under index (operator_named e.operator) e.values fault (is ∙ h) in
    ([], e, es, refl, omega (arith, told.1), All-nil IsWellFormed, told.0)

first_from_fault : (index : ℕ) (es : List Expression) (fault : SelectorFault) → first_fault_from index es ≡ Some fault → IsFirstFrom index es fault
first_from_fault index [] fault h = absurd (cc)
first_from_fault index (e ∷ es) fault h = first_step (fault_of index e) index e es fault refl (first_from_fault (index + 1) es fault) h

fault_from_first : (index : ℕ) (before : List Expression) (here : Expression) (after : List Expression) (fault : SelectorFault)
    → place_of fault ≡ index + length before → All IsWellFormed before → HasFault here fault → first_fault_from index (before ++ here ∷ after) ≡ Some fault
fault_from_first index [] here after fault place formed faulty =
    let e : fault_of index here ≡ Some fault = fault_under_told index (operator_named here.operator) here.values fault (faulty, omega (arith, place)) in
    rw e refl
fault_from_first index (b ∷ bs) here after fault place formed faulty =
    let e : fault_of index b ≡ None = none_from_well_formed index b (All-head IsWellFormed b bs formed) in
    rw e (fault_from_first (index + 1) bs here after fault (omega (arith, place)) (All-tail IsWellFormed b bs formed) faulty)

formed_step : (x : Option SelectorFault) (index : ℕ) (e : Expression) (es : List Expression) → fault_of index e ≡ x
    → (first_fault_from (index + 1) es ≡ None → All IsWellFormed es) → option_or x (first_fault_from (index + 1) es) ≡ None → All IsWellFormed (e ∷ es)
formed_step None index e es is later h = All-cons IsWellFormed e es (well_formed_from_none index e is) (later h)
formed_step (Some f) index e es is later h = absurd (cc)

well_formed_from : (index : ℕ) (es : List Expression) → first_fault_from index es ≡ None → All IsWellFormed es
well_formed_from index [] h = All-nil IsWellFormed
well_formed_from index (e ∷ es) h = formed_step (fault_of index e) index e es refl (well_formed_from (index + 1) es) h

no_fault_from : (index : ℕ) (es : List Expression) → All IsWellFormed es → first_fault_from index es ≡ None
no_fault_from index [] formed = refl
no_fault_from index (e ∷ es) formed =
    let here : fault_of index e ≡ None = none_from_well_formed index e (All-head IsWellFormed e es formed) in
    rw here (no_fault_from (index + 1) es (All-tail IsWellFormed e es formed))

-- ---- the selector

-- there is no fault exactly where all are well formed
pub first_fault_none : (es : List Expression) → (first_fault es ≡ None) ↔ All IsWellFormed es
first_fault_none es = (well_formed_from 0 es, no_fault_from 0 es)

-- a fault is told exactly where it is the first
pub first_fault_some : (es : List Expression) (fault : SelectorFault) → (first_fault es ≡ Some fault) ↔ IsFirstFault es fault
first_fault_some es fault = (
  λ h. let l = first_from_fault 0 es fault h in
      record { before = l.0; here = l.1; after = l.2; split = l.3; place = omega (arith, l.4); well_formed = l.5; faulty = l.6 },
  λ first. rw first.split (fault_from_first 0 first.before first.here first.after fault (omega (arith, first.place)) first.well_formed first.faulty),
)

ok_from_none : (x : Option SelectorFault) (value : SelectorValue) → IsOk (unless_fault x value) ↔ (x ≡ None)
ok_from_none None value = (λ _. refl, λ _. refl)
ok_from_none (Some fault) value = (λ h. cc, λ h. cc)

err_from_some : (x : Option SelectorFault) (value : SelectorValue) (fault : SelectorFault) → (unless_fault x value ≡ Err fault) ↔ (x ≡ Some fault)
err_from_some None value fault = (λ h. cc, λ h. cc)
err_from_some (Some f) value fault = (λ h. cc, λ h. cc)

pub selector_of_ok : (pairs : List (List ℕ × List ℕ)) (es : List Expression) (r : Result SelectorValue SelectorFault) → r ≡ selector_of pairs es
    → IsOk r ↔ All IsWellFormed es
selector_of_ok pairs es r is =
    let a = ok_from_none (first_fault es) (record { pairs = pairs; expressions = es }) in
    let b = first_fault_none es in
    rw is (λ h. b.0 (a.0 h), λ h. a.1 (b.1 h))

pub selector_of_err : (pairs : List (List ℕ × List ℕ)) (es : List Expression) (r : Result SelectorValue SelectorFault) → r ≡ selector_of pairs es
    → (fault : SelectorFault) → (r ≡ Err fault) ↔ IsFirstFault es fault
selector_of_err pairs es r is fault =
    let a = err_from_some (first_fault es) (record { pairs = pairs; expressions = es }) fault in
    let b = first_fault_some es fault in
    rw is (λ h. b.0 (a.0 h), λ h. a.1 (b.1 h))

none_Decides : (found : Option SelectorFault) → Decides (is_none found) (found ≡ None)
none_Decides None = (λ e. refl, λ e. refl)
none_Decides (Some fault) = (λ e. absurd (cc), λ e. absurd (cc))

-- the test that none is at fault
pub well_formed-Decides : (es : List Expression) → Decides (is_none (first_fault es)) (All IsWellFormed es)
well_formed-Decides es =
    let none = none_Decides (first_fault es) in
    (λ passes. (first_fault_none es).0 (none.0 passes), λ all. none.1 ((first_fault_none es).1 all))
