-- The preferences that advertisements have, pool by pool.
use Rattle.std.specs.Prelude.{◌≡◌, ℕ, Bool, true, false, ◌&&◌, ◌==◌, List, Option, Some, None, if◌then◌else◌}
use Rattle.std.specs.BTreeMap.{get}
use Rattle.std.specs.List.{list_any}
use Rattle.std.specs.Ordering.{nat_cmp}
use Rattle.ip_ranges.specs.declared.family.Family.{Family}
use Rattle.ip_ranges.specs.declared.family.Family.TheVariants.{V4, V6}
use Rattle.pool_config.specs.declared.compiled.CompiledBgp.{CompiledBgp}
use Rattle.pool_config.specs.declared.compiled.CompiledPool.{CompiledPool}
use Rattle.pool_config.specs.declared.preferences.Preferences.{Preferences}
use Rattle.pool_config.specs.declared.preferences.PoolPreferences.{PoolPreferences}
use Rattle.pool_config.specs.Faults.{length_for}
use Rattle.pool_config.specs.Search.{chooses_pool}
use Rattle.mlb_base.specs.Items.{ItemAt}

-- what is known of a length, nothing, one preference or that there are several, once one more advertisement has the preference
abbrev pub joined : Option (Option ℕ) → ℕ → Option ℕ
joined None preference = Some preference
joined (Some None) preference = None
joined (Some (Some known)) preference = if known == preference then Some preference else None

-- that some advertisement of the length has the preference
abbrev pub IsKnownAs : Option (Option ℕ) → ℕ → Type 0
IsKnownAs None preference = ⊥
IsKnownAs (Some None) preference = Unit {0}
IsKnownAs (Some (Some known)) preference = known ≡ preference

abbrev pub Knows : Preferences → ℕ → ℕ → Type 0
Knows held length preference = IsKnownAs (get nat_cmp held.by_length length) preference

abbrev pub is_several : Option (Option ℕ) → Bool
is_several None = false
is_several (Some None) = true
is_several (Some (Some known)) = false

abbrev pub are_several : Preferences → ℕ → Bool
are_several held length = is_several (get nat_cmp held.by_length length)

-- each of the advertisements that chooses the pool is known by its length of the family
abbrev pub KnowsEach : Family → CompiledPool → List CompiledBgp → Preferences → Type 0
KnowsEach family pool bgp held =
    (k : ℕ) (adv : CompiledBgp) → ItemAt bgp k adv → chooses_pool adv pool ≡ true → Knows held (length_for adv family) adv.local_pref

-- what was known is known still, and so is the advertisement, where it chooses the pool
abbrev pub Notes : Family → CompiledPool → CompiledBgp → Preferences → Preferences → Type 0
Notes family pool adv old new =
    ((length preference : ℕ) → Knows old length preference → Knows new length preference)
    × (chooses_pool adv pool ≡ true → Knows new (length_for adv family) adv.local_pref)

abbrev pub KnowsPool : List CompiledBgp → PoolPreferences → Type 0
KnowsPool bgp held = KnowsEach V4 held.pool.now bgp held.v4 × KnowsEach V6 held.pool.now bgp held.v6

abbrev pub of_family : Family → Bool → Bool → Bool
of_family V4 v4 v6 = v4
of_family V6 v4 v6 = v6

-- whether a length of the advertisement has several preferences, of a family of which the pool has a span
abbrev pub are_several_at : CompiledBgp → PoolPreferences → Bool
are_several_at adv held =
    list_any (λ span. of_family span.family (are_several held.v4 adv.length) (are_several held.v6 adv.length_v6)) held.pool.now.spans

abbrev pub clashes_at : CompiledBgp → PoolPreferences → Bool
clashes_at adv held = chooses_pool adv held.pool.now && are_several_at adv held

abbrev pub clashes_anywhere : List PoolPreferences → CompiledBgp → Bool
clashes_anywhere known adv = list_any (clashes_at adv) known
