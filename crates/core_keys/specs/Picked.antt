-- Which keys are picked.
use Rattle.std.specs.Prelude.{Bool, if◌then◌else◌, List, [], map, filter}
use Rattle.kube_model.specs.declared.key.Key.{Key}
use Rattle.kube_model.specs.Keys.{without}
use Rattle.versioned_map.specs.declared.map.Versioned.{Versioned}

-- the keys of the objects that pass
abbrev pub keys_where : {T : Type 0} → (Key → Versioned T → Bool) → List (Key × Versioned T) → List Key
keys_where passes entries = map (λ e. e.0) (filter (λ e. passes e.0 e.1) entries)

-- the keys but this one, where a claim was lost
abbrev pub others_where : Bool → Key → List Key → List Key
others_where lost key keys = if lost then without key keys else []
