-- Clashing advertisements, as they are looked for: of each advertisement in turn, those after it only where it clashes with some other one.
use Rattle.std.specs.Prelude.{ℕ, List, [], ◌∷◌, find, Option, None, if◌then◌else◌}
use Rattle.std.specs.Option.{option_map, option_or}
use Rattle.pool_config.specs.declared.compiled.CompiledBgp.{CompiledBgp}
use Rattle.pool_config.specs.declared.compiled.CompiledPool.{CompiledPool}
use Rattle.pool_config.specs.declared.preferences.PoolPreferences.{PoolPreferences}
use Rattle.pool_config.specs.Preferences.{clashes_anywhere}
use Rattle.pool_config.specs.Search.{clash}

unfoldable pub clashing_from : List PoolPreferences → List CompiledPool → CompiledBgp → List CompiledBgp → Option (List ℕ)
clashing_from known pools adv behind = if clashes_anywhere known adv then option_map (λ other. other.name) (find (clash pools adv) behind) else None

-- the later one of the first two advertisements that clash
abbrev pub first_clashing : List PoolPreferences → List CompiledPool → List CompiledBgp → Option (List ℕ)
first_clashing known pools [] = None
first_clashing known pools (adv ∷ behind) = option_or (clashing_from known pools adv behind) (first_clashing known pools behind)
