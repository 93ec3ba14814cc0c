-- Ordered sets, as lists of keys that ascend.
use Rattle.std.specs.Prelude.{List, [], ◌∷◌}
use Rattle.std.specs.BTreeSet.{insert_key}
use Rattle.std.specs.declared.cmp.Ordering.{Ordering}

-- the keys, each put in its place among those held, once
abbrev pub keys_with : {K : Type 0} → (K → K → Ordering) → List K → List K → List K
keys_with cmp held [] = held
keys_with cmp held (k ∷ more) = keys_with cmp (insert_key cmp held k) more
