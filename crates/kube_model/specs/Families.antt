-- The families that a service wants addresses of.
use Rattle.std.specs.Prelude.{◌≢◌, List, [], ◌∷◌, ⊤}
use Rattle.ip_ranges.specs.declared.family.Family.{Family}

-- one family, or two distinct ones
abbrev pub AreFamilies : List Family → Type 0
AreFamilies [] = ⊥
AreFamilies (family ∷ []) = ⊤
AreFamilies (first ∷ second ∷ []) = first ≢ second
AreFamilies (first ∷ second ∷ third ∷ rest) = ⊥
