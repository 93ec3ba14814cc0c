-- What a map holds, without keys and versions.
use Rattle.std.specs.Prelude.{List, map}
use Rattle.versioned_map.specs.declared.map.Versioned.{Versioned}

-- the objects of a kind, in the order of their keys
abbrev pub objects_of : {K T : Type 0} → List (K × Versioned T) → List T
objects_of entries = map (λ e. e.1.object) entries
