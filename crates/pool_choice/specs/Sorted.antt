-- Lists that are sorted item by item.
use Rattle.std.specs.Prelude.{if◌then◌else◌, List, [], ◌∷◌}
use Rattle.std.specs.declared.cmp.Ordering.{Ordering}
use Rattle.std.specs.Ordering.{is_lt}

-- the item ahead of the first one that it is less than
abbrev pub placed : {X : Type 0} → (X → X → Ordering) → X → List X → List X
placed cmp x [] = x ∷ []
placed cmp x (y ∷ ys) = if is_lt (cmp x y) then x ∷ y ∷ ys else y ∷ placed cmp x ys

-- the items, each in its place among those after it
abbrev pub sorted : {X : Type 0} → (X → X → Ordering) → List X → List X
sorted cmp [] = []
sorted cmp (x ∷ xs) = placed cmp x (sorted cmp xs)
