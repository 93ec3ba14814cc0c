-- The best of the eligible members is that of those which are eligible for the address's pool.
use Rattle.std.proofs.Common.{◌≡◌, ℕ, Bool, false, ◌&&◌, List, filter, Option, Some, None, refl, ap, ◌∙◌}
use Rattle.ip_ranges.specs.Values.{AddressValue}
use Rattle.pool_config.specs.declared.compiled.CompiledPool.{CompiledPool}
use Rattle.pool_config.specs.ConfigValue.{ConfigValue}
use Rattle.pool_config.specs.PoolOf.{pool_with}
use Rattle.speaker_view.specs.Endpoints.{announced_from}
use Rattle.speaker_view.specs.ViewValue.{ViewValue}
use Rattle.l2_elect.specs.Eligible.{advertises, passes_for, passes_in}
use Rattle.l2_elect.specs.Election.{best_by, best_from, elected}
use Rattle.l2_elect.proofs.Unrecorded.{none-pass}

module _ (v : ViewValue) (address : AddressValue) (text : List ℕ) where
  -- by whatever says which members are advertised
  abbrev best_where : (List ℕ → Bool) → Option (List ℕ)
  best_where advertised = best_from text None (filter (λ node. advertised node && announced_from v address node) v.members)

  nobody : best_where (λ node. false) ≡ None
  nobody = ap (best_from text None) (none-pass (λ (node : List ℕ). false) v.members (λ node. refl))

  abbrev by_config : Option ConfigValue → Option (List ℕ)
  by_config held = best_where (λ node. passes_in (advertises v node) address held)

  abbrev by_found : ConfigValue → Option CompiledPool → Option (List ℕ)
  by_found config found = best_where (λ node. passes_for (advertises v node) config.l2 found)

  pub no_config : v.held.config ≡ None → elected v address text ≡ None
  no_config none = ap by_config none ∙ nobody

  pub no_pool : (config : ConfigValue) → v.held.config ≡ Some config → pool_with config.pools address ≡ None → elected v address text ≡ None
  no_pool config in_force none = ap by_config in_force ∙ ap (by_found config) none ∙ nobody

  pub by_pool : (config : ConfigValue) (pool : CompiledPool) → v.held.config ≡ Some config → pool_with config.pools address ≡ Some pool
      → elected v address text ≡ best_by v address text pool config.l2
  by_pool config pool in_force is = ap by_config in_force ∙ ap (by_found config) is
