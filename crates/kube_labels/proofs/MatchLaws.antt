-- The test of a match decides the relation.
use Rattle.std.proofs.Common.{◌≡◌, ℕ, List, refl, subst, true, Option, Some, None, is_some, Contains, Decides}
use Rattle.std.specs.List.{list_any, list_all}
use Rattle.std.specs.Str.{bytes_eq}
use Rattle.std.proofs.lemmas.Bool.Decides.{Decides-not, Decides-and, Decides-by_and}
use Rattle.std.proofs.lemmas.List.Folds.{Any-from_list_any, list_any-from_Any}
use Rattle.std.proofs.lemmas.Slice.Eq.{bytes_eq-Decides}
use Rattle.kube_labels.specs.declared.expression.Expression.{Expression}
use Rattle.kube_labels.specs.declared.operator.Operator.{Operator}
use Rattle.kube_labels.specs.declared.operator.Operator.TheVariants.{In, NotIn, Exists, DoesNotExist}
use Rattle.kube_labels.specs.Operators.{operator_named}
use Rattle.kube_labels.specs.Expressions.{is_listed, HasListed, Holds, HoldsUnder, holds_of, holds_under}
use Rattle.kube_labels.specs.Pairs.{IsAscending, HasName, value_of, is_found, has_pair}
use Rattle.kube_labels.specs.SelectorValue.{SelectorValue}
use Rattle.kube_labels.specs.Selectors.{Matches, matches}
use Rattle.kube_labels.proofs.PairLaws.{Contains-from_value_of, value_of-from_Contains}

-- ---- what is told of a value found

found_value : (value : List ℕ) (o : Option (List ℕ)) → is_found value o ≡ true → o ≡ Some value
found_value value None h = cc
found_value value (Some found) h = let e : found ≡ value = (bytes_eq-Decides found value).0 h in rw e refl

there_value : (o : Option (List ℕ)) → is_some o ≡ true → (value : List ℕ) × (o ≡ Some value)
there_value None h = absurd (cc)
there_value (Some value) h = (value, refl)

Contains-from_listed : (values : List (List ℕ)) (value : List ℕ) → list_any (λ listed. bytes_eq listed value) values ≡ true → Contains values value
Contains-from_listed values value h =
    let a = Any-from_list_any (λ listed. bytes_eq listed value) values h in
    let e : a.1 ≡ value = (bytes_eq-Decides a.1 value).0 a.4 in
    let P : List ℕ → Type 0 = λ x. Contains values x in
    subst P e (a.0, a.2, a.3)

listed_from_Contains : (values : List (List ℕ)) (value : List ℕ) → Contains values value → list_any (λ listed. bytes_eq listed value) values ≡ true
listed_from_Contains values value there =
    list_any-from_Any (λ listed. bytes_eq listed value) values (there.0, value, there.1, there.2, (bytes_eq-Decides value value).1 refl)

listed_value : (values : List (List ℕ)) (o : Option (List ℕ)) → is_listed values o ≡ true → (value : List ℕ) × Contains values value × (o ≡ Some value)
listed_value values None h = absurd (cc)
listed_value values (Some value) h = (value, Contains-from_listed values value h, refl)

-- ---- among pairs that ascend

pub has_pair-Decides : (pairs : List (List ℕ × List ℕ)) → IsAscending pairs → (p : List ℕ × List ℕ) → Decides (has_pair pairs p) (Contains pairs p)
has_pair-Decides pairs ascending p = (
  λ h. Contains-from_value_of p.0 p.1 pairs (found_value p.1 (value_of p.0 pairs) h),
  λ there. let e : value_of p.0 pairs ≡ Some p.1 = value_of-from_Contains p.0 p.1 pairs ascending there in rw e ((bytes_eq-Decides p.1 p.1).1 refl),
)

name-Decides : (pairs : List (List ℕ × List ℕ)) → IsAscending pairs → (name : List ℕ) → Decides (is_some (value_of name pairs)) (HasName pairs name)
name-Decides pairs ascending name = (
  λ h. let v = there_value (value_of name pairs) h in (v.0, Contains-from_value_of name v.0 pairs v.1),
  λ there. let e : value_of name pairs ≡ Some there.0 = value_of-from_Contains name there.0 pairs ascending there.1 in rw e refl,
)

listed-Decides : (pairs : List (List ℕ × List ℕ)) → IsAscending pairs → (key : List ℕ) (values : List (List ℕ))
    → Decides (is_listed values (value_of key pairs)) (HasListed pairs key values)
listed-Decides pairs ascending key values = (
  λ h. let v = listed_value values (value_of key pairs) h in (v.0, v.1, Contains-from_value_of key v.0 pairs v.2),
  λ there. let e : value_of key pairs ≡ Some there.0 = value_of-from_Contains key there.0 pairs ascending there.2 in
      rw e (listed_from_Contains values there.0 there.1),
)

holds_under-Decides : (o : Option Operator) (pairs : List (List ℕ × List ℕ)) → IsAscending pairs → (key : List ℕ) (values : List (List ℕ))
    → Decides (holds_under o values (value_of key pairs)) (HoldsUnder o pairs key values)
holds_under-Decides None pairs ascending key values = (λ h. cc, λ h. absurd h)
holds_under-Decides (Some In) pairs ascending key values = listed-Decides pairs ascending key values
holds_under-Decides (Some NotIn) pairs ascending key values = Decides-not _ (listed-Decides pairs ascending key values)
holds_under-Decides (Some Exists) pairs ascending key values = name-Decides pairs ascending key
holds_under-Decides (Some DoesNotExist) pairs ascending key values = Decides-not _ (name-Decides pairs ascending key)

-- the test of an expression decides whether it holds
pub holds_of-Decides : (pairs : List (List ℕ × List ℕ)) → IsAscending pairs → (e : Expression) → Decides (holds_of pairs e) (Holds pairs e)
holds_of-Decides pairs ascending e = holds_under-Decides (operator_named e.operator) pairs ascending e.key e.values

-- the test of a selector decides whether it matches
pub matches-Decides : (selector : SelectorValue) (pairs : List (List ℕ × List ℕ)) → IsAscending pairs
    → Decides (matches selector pairs) (Matches selector pairs)
matches-Decides selector pairs ascending =
    Decides-and _ _
    (Decides-by_and (has_pair pairs) (Contains pairs) (list_all (has_pair pairs)) (has_pair-Decides pairs ascending) refl (λ _ _. refl) selector.pairs)
    (Decides-by_and (holds_of pairs) (Holds pairs) (list_all (holds_of pairs)) (holds_of-Decides pairs ascending) refl (λ _ _. refl) selector.expressions)
