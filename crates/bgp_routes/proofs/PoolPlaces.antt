-- The pool at the place that was found is the pool of the address.
use Rattle.std.proofs.Common.{◌≡◌, ℕ, List, [], Option, Some, None, sym}
use Rattle.ip_ranges.specs.Values.{AddressValue}
use Rattle.kube_labels.specs.Names.{name_cmp}
use Rattle.std.specs.List.Sorted.{IsStrictlySortedBy}
use Rattle.pool_config.specs.declared.compiled.CompiledPool.{CompiledPool}
use Rattle.pool_config.specs.ConfigValue.{AreApart, placed_spans}
use Rattle.pool_config.specs.PoolOf.{pool_of, pool_with}
use Rattle.pool_config.proofs.OnePool.{with_at, with_none}
use Rattle.bgp_routes.specs.KeptConfig.{pool_at}

pub found-pool : (pools : List CompiledPool) → AreApart (placed_spans pools) → (a : AddressValue) (found : Option ℕ) → found ≡ pool_of pools a
    → pool_at pools found ≡ pool_with pools a
found-pool pools apart a None is = with_none pools apart a (sym is)
found-pool pools apart a (Some place) is = with_at pools apart a place (sym is)

pub no-names : IsStrictlySortedBy name_cmp []
unfolding IsStrictlySortedBy
no-names = tt
