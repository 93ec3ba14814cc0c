-- The pool that has an address.
use Rattle.std.specs.Prelude.{ℕ, Bool, List, find, Option}
use Rattle.std.specs.List.{list_any, position_from}
use Rattle.ip_ranges.specs.Values.{AddressValue, Holds, holds}
use Rattle.pool_config.specs.declared.compiled.CompiledPool.{CompiledPool}
use Rattle.mlb_base.specs.Items.{Has}

-- one of its spans has the address
abbrev pub HasAddress : AddressValue → CompiledPool → Type 0
HasAddress a pool = Has (λ span. Holds span a) pool.spans

abbrev pub has_address : AddressValue → CompiledPool → Bool
has_address a pool = list_any (λ span. holds span a) pool.spans

-- the place of the first pool that has the address
abbrev pub pool_of : List CompiledPool → AddressValue → Option ℕ
pool_of pools a = position_from (has_address a) 0 pools

-- the first pool that has the address
abbrev pub pool_with : List CompiledPool → AddressValue → Option CompiledPool
pool_with pools a = find (has_address a) pools
