-- For each group a set of keys.
use Rattle.std.specs.Prelude.{Bool, false, List, Option, Some, None}
use Rattle.std.specs.declared.cmp.Ordering.{Ordering}
use Rattle.std.specs.Map.{lookup}
use Rattle.std.specs.BTreeMap.{is_at}
use Rattle.std.specs.BTreeSet.{BTreeSet, contains}

-- whether the key is in the set, where there is one
abbrev pub is_in : {K : Type 0} → (K → K → Ordering) → Option (BTreeSet K) → K → Bool
is_in cmp None k = false
is_in cmp (Some keys) k = contains cmp keys k

-- whether the key is in the set of the group; a group without an entry has none
abbrev pub in_group : {G K : Type 0} → (G → G → Ordering) → (K → K → Ordering) → List (G × BTreeSet K) → G → K → Bool
in_group cmp key_cmp entries group k = is_in key_cmp (lookup (is_at (cmp group)) entries) k
