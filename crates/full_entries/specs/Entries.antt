-- The entries of pools.
use Rattle.std.specs.Prelude.{◌≡◌, ◌⊎◌, Bool, List, [], map}
use Rattle.std.specs.List.{flat_map}
use Rattle.ip_ranges.specs.Values.{SpanValue}
use Rattle.pool_config.specs.declared.compiled.CompiledPool.{CompiledPool}
use Rattle.full_entries.specs.declared.entries.Entry.{Entry}

-- the addresses of a span, of a pool that avoids buggy ones or not
abbrev pub entry_of : Bool → SpanValue → Entry
entry_of avoiding span = record { family = span.family; low = span.low; high = span.high; avoiding = avoiding }

-- the entries of a pool
abbrev pub entries_in : CompiledPool → List Entry
entries_in pool = map (entry_of pool.avoid_buggy) pool.spans

-- the entries of pools, pool by pool
abbrev pub entries_of : List CompiledPool → List Entry
entries_of pools = flat_map entries_in pools

-- there is no entry, or these are those of the pools
abbrev pub AreThose : List CompiledPool → List Entry → Type 0
AreThose pools entries = (entries ≡ []) ⊎ (entries ≡ entries_of pools)
