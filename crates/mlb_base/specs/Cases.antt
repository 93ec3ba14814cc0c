-- Tables of cases, of which the first that holds is decisive, and the first item of a list that something holds of.
use Rattle.std.specs.Prelude.{◌≡◌, ◌⊎◌, List, [], ◌∷◌, ⊤}

-- what is answered where the case holds, and what is left to the cases after it where it doesn't
abbrev pub Case : Type 0 → Type 0 → Type 0 → Type 0
Case holds answer behind = (holds × answer) ⊎ ((¬ holds) × behind)

-- it holds of the item, and of none ahead of it
abbrev pub IsFirst : {X : Type 0} → (X → Type 0) → List X → X → Type 0
IsFirst P [] x = ⊥
IsFirst P (y ∷ ys) x = (P y × (x ≡ y)) ⊎ ((¬ (P y)) × IsFirst P ys x)

-- it holds of none
abbrev pub NoneIs : {X : Type 0} → (X → Type 0) → List X → Type 0
NoneIs P [] = ⊤
NoneIs P (y ∷ ys) = (¬ (P y)) × NoneIs P ys
