-- A test of advertisements and their pools passes at one of those in force.
use Rattle.std.proofs.Common.{◌≡◌, Bool, true, Option, Some, None, refl, ap, ◌∙◌, Contains}
use Rattle.std.proofs.lemmas.Bool.{false≢true}
use Rattle.mlb_base.proofs.Among.{any-found, any-contains}
use Rattle.ip_ranges.specs.Values.{AddressValue}
use Rattle.pool_config.specs.declared.compiled.CompiledL2.{CompiledL2}
use Rattle.pool_config.specs.declared.compiled.CompiledPool.{CompiledPool}
use Rattle.pool_config.specs.ConfigValue.{ConfigValue}
use Rattle.pool_config.specs.PoolOf.{pool_with}
use Rattle.l2_elect.specs.Eligible.{passes_for, passes_in}

-- The advertisement, the pool that has the address, and the configuration that they are of.
pub record Passing (test : CompiledPool → CompiledL2 → Bool) (address : AddressValue) (held : Option ConfigValue) : Type 0 where
  pub config : ConfigValue
  pub in_force : held ≡ Some config
  pub pool : CompiledPool
  pub pool_is : pool_with config.pools address ≡ Some pool
  pub advertisement : CompiledL2
  pub there : Contains config.l2 advertisement
  pub passes : test pool advertisement ≡ true

module _ (test : CompiledPool → CompiledL2 → Bool) (address : AddressValue) where
  at_pool : (config : ConfigValue) (found : Option CompiledPool) → pool_with config.pools address ≡ found → passes_for test config.l2 found ≡ true
      → Passing test address (Some config)
  at_pool config None is e = absurd (false≢true e)
  at_pool config (Some pool) is e =
      let some = any-found (test pool) config.l2 e in
      record { config = config; in_force = refl; pool = pool; pool_is = is; advertisement = some.0; there = some.1; passes = some.2 }

  pub passing : (held : Option ConfigValue) → passes_in test address held ≡ true → Passing test address held
  passing None e = absurd (false≢true e)
  passing (Some config) e = at_pool config (pool_with config.pools address) refl e

  pub passes-where : (held : Option ConfigValue) (config : ConfigValue) (pool : CompiledPool) (advertisement : CompiledL2) → held ≡ Some config
      → pool_with config.pools address ≡ Some pool
      → Contains config.l2 advertisement → test pool advertisement ≡ true → passes_in test address held ≡ true
  passes-where held config pool advertisement in_force pool_is there passes =
      ap (passes_in test address) in_force ∙ ap (passes_for test config.l2) pool_is ∙ any-contains (test pool) config.l2 advertisement there passes
