-- Keys that were numbered as they came.
use Rattle.std.specs.Prelude.{ℕ, nat_lt, if◌then◌else◌, List, [], ◌∷◌}
use Rattle.std.specs.Map.{keys_of}

-- an entry ahead of the first whose number is greater
abbrev pub placed : {K : Type 0} → K × ℕ → List (K × ℕ) → List (K × ℕ)
placed e [] = e ∷ []
placed e (x ∷ es) = if nat_lt e.1 x.1 then e ∷ x ∷ es else x ∷ placed e es

-- the entries by ascending number
abbrev pub by_number : {K : Type 0} → List (K × ℕ) → List (K × ℕ)
by_number [] = []
by_number (e ∷ es) = placed e (by_number es)

-- the keys in the order in which they came
abbrev pub in_turn : {K : Type 0} → List (K × ℕ) → List K
in_turn es = keys_of (by_number es)
