-- Objects by key, each at a version: a list of entries by ascending key.
use Rattle.std.specs.Prelude.{◌≡◌, ℕ, Some, None, Bool, true, false, ◌==◌, not, nat_le, if◌then◌else◌, List, Option, map, filter}
use Rattle.std.specs.Option.{option_map, option_map_or}
use Rattle.std.specs.Map.{lookup, set_value}
use Rattle.std.specs.BTreeMap.{insert_entry, is_at}
use Rattle.std.specs.declared.cmp.Ordering.{Ordering}
use Rattle.versioned_map.specs.declared.map.Versioned.{Versioned}
use Rattle.versioned_map.specs.declared.map.Shown.{Shown}
use Rattle.versioned_map.specs.declared.map.Shown.TheVariants.{Held, PassedOver}

-- what is held under the key, with its version
abbrev pub held_at : {K T : Type 0} → (K → K → Ordering) → List (K × Versioned T) → K → Option (Versioned T)
held_at cmp entries key = lookup (is_at (cmp key)) entries

-- the object that is held under the key
abbrev pub object_at : {K T : Type 0} → (K → K → Ordering) → List (K × Versioned T) → K → Option T
object_at cmp entries key = option_map (λ h. h.object) (held_at cmp entries key)

-- the version held for the key, and 0 where nothing is held under it
abbrev pub version_at : {K T : Type 0} → (K → K → Ordering) → List (K × Versioned T) → K → ℕ
version_at cmp entries key = option_map_or (λ h. h.version) (held_at cmp entries key) 0

-- the version is greater than the one held for the key
abbrev pub is_newer : {K T : Type 0} → (K → K → Ordering) → List (K × Versioned T) → K → ℕ → Bool
is_newer cmp entries key version = not (nat_le version (version_at cmp entries key))

-- an object is shown: it is held from now on where it is newer, and else it is ignored
abbrev pub shown : {K T : Type 0} → (K → K → Ordering) → List (K × Versioned T) → K → ℕ → T → List (K × Versioned T)
shown cmp entries key version object =
    if nat_le version (version_at cmp entries key) then entries
    else insert_entry cmp entries key (record { version = version; object = object })

-- what that comes to: what was held before, or the object back
abbrev pub shown_note : {K T : Type 0} → (K → K → Ordering) → List (K × Versioned T) → K → ℕ → T → Shown T
shown_note cmp entries key version object =
    if nat_le version (version_at cmp entries key) then PassedOver object else Held (object_at cmp entries key)

-- whether it is held now
abbrev pub is_held : {T : Type 0} → Shown T → Bool
is_held (Held before) = true
is_held (PassedOver object) = false

-- the object at another version
abbrev pub at_version : {T : Type 0} → ℕ → Versioned T → Versioned T
at_version version h = record { version = version; object = h.object }

-- a watch has expired: every object at version 0
abbrev pub expired : {K T : Type 0} → List (K × Versioned T) → List (K × Versioned T)
expired entries = map (λ e. (e.0, at_version 0 e.1)) entries

-- it was shown since its watch expired
abbrev pub is_listed : {K T : Type 0} → K × Versioned T → Bool
is_listed e = not (e.1.version == 0)

-- a list has ended: those that were shown in it
abbrev pub listed : {K T : Type 0} → List (K × Versioned T) → List (K × Versioned T)
listed entries = filter is_listed entries

-- the keys of those that weren't
abbrev pub unlisted_keys : {K T : Type 0} → List (K × Versioned T) → List K
unlisted_keys entries = map (λ e. e.0) (filter (λ e. e.1.version == 0) entries)

-- `amended`, where what is held under the key is given
abbrev pub amended_at : {K T : Type 0} → (K → K → Ordering) → List (K × Versioned T) → K → ℕ → (T → T) → Option (Versioned T) → List (K × Versioned T)
amended_at cmp entries key version change None = entries
amended_at cmp entries key version change (Some h) =
    set_value (is_at (cmp key)) entries (record { version = version; object = change h.object })

-- what is held under the key is changed, and held at this version; where nothing is held under it, nothing changes
abbrev pub amended : {K T : Type 0} → (K → K → Ordering) → List (K × Versioned T) → K → ℕ → (T → T) → List (K × Versioned T)
amended cmp entries key version change = amended_at cmp entries key version change (held_at cmp entries key)

-- `Amends`, where what is held under the key is given
abbrev pub AmendsHeld : {K T : Type 0} → (T → Unit {0} → T → Type 0) → (K → K → Ordering) → K → ℕ → Option (Versioned T)
    → List (K × Versioned T) → List (K × Versioned T) → Type 0
AmendsHeld Changes cmp key version None old new = new ≡ old
AmendsHeld {K} {T} Changes cmp key version (Some h) old new =
    (object : T) × Changes h.object tt object
    × (new ≡ set_value (is_at (cmp key)) old (record { version = version; object = object }))

-- `amended` by a change that is a relation: of what was held, what it answers, and what is held then
abbrev pub Amends : {K T : Type 0} → (T → Unit {0} → T → Type 0) → (K → K → Ordering) → K → ℕ
    → List (K × Versioned T) → List (K × Versioned T) → Type 0
Amends Changes cmp key version old new = AmendsHeld Changes cmp key version (held_at cmp old key) old new
