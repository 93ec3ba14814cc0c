-- The items of a list, along the list.
use Rattle.std.specs.Prelude.{◌≡◌, ℕ, zero, suc, Bool, true, false, List, [], ◌∷◌, ◌⊎◌}

-- the item at the place, counted from 0
abbrev pub ItemAt : {A : Type 0} → List A → ℕ → A → Type 0
ItemAt [] i x = ⊥
ItemAt (y ∷ ys) zero x = y ≡ x
ItemAt (y ∷ ys) (suc i) x = ItemAt ys i x

-- some item is so
abbrev pub Has : {A : Type 0} → (A → Type 0) → List A → Type 0
Has P [] = ⊥
Has P (x ∷ xs) = P x ⊎ Has P xs

-- it is one of the items
abbrev pub IsIn : {A : Type 0} → List A → A → Type 0
IsIn xs x = Has (λ y. y ≡ x) xs

abbrev pub is_nil : {A : Type 0} → List A → Bool
is_nil [] = true
is_nil (x ∷ xs) = false
