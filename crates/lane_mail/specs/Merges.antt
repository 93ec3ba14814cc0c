-- Two lists put together.
use Rattle.std.specs.Prelude.{◌≡◌, ◌⊎◌, List, [], ◌∷◌}

-- the list has the elements of both others and no more, in an order that keeps that of each
abbrev pub IsMerge : {T : Type 0} → List T → List T → List T → Type 0
IsMerge [] xs ys = (xs ≡ []) × (ys ≡ [])
IsMerge {T} (x ∷ list) xs ys = ((rest : List T) × (xs ≡ x ∷ rest) × IsMerge list rest ys) ⊎ ((rest : List T) × (ys ≡ x ∷ rest) × IsMerge list xs rest)
