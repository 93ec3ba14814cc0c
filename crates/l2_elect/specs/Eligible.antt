-- Which nodes are eligible for an address.
use Rattle.std.specs.Prelude.{◌↔◌, ℕ, Bool, false, ◌&&◌, List, Option, Some, None, Contains}
use Rattle.std.specs.List.{list_any}
use Rattle.ip_ranges.specs.Values.{AddressValue}
use Rattle.pool_config.specs.declared.compiled.CompiledL2.{CompiledL2}
use Rattle.pool_config.specs.declared.compiled.CompiledPool.{CompiledPool}
use Rattle.pool_config.specs.Choice.{chooses, selects}
use Rattle.pool_config.specs.ConfigValue.{ConfigValue}
use Rattle.pool_config.specs.PoolOf.{pool_with}
use Rattle.speaker_view.specs.Change.{StaysAt}
use Rattle.speaker_view.specs.Advertised.{IsAnnouncedFrom, IsMeant}
use Rattle.speaker_view.specs.Endpoints.{announced_from, node_labels}
use Rattle.speaker_view.specs.ViewValue.{ViewValue}

-- The L2Advertisement is one of the configuration in force, and is meant for the pool that has the address, and for the node.
pub record IsAdvertisedBy (v : ViewValue) (address : AddressValue) (node : List ℕ) (advertisement : CompiledL2) : Type 0 where
  pub config : ConfigValue
  pub there : Contains config.l2 advertisement
  pub meant : IsMeant v address node config advertisement.pools advertisement.pool_selectors advertisement.node_selectors

-- some advertisement is such a one
abbrev pub IsAdvertised : ViewValue → AddressValue → List ℕ → Type 0
IsAdvertised v address node = (advertisement : CompiledL2) × IsAdvertisedBy v address node advertisement

-- The node is a member, the address is advertised from it, and a service that has the address can be announced from it.
pub record IsEligible (v : ViewValue) (address : AddressValue) (node : List ℕ) : Type 0 where
  pub member : Contains v.members node
  pub advertised : IsAdvertised v address node
  pub recorded : IsAnnouncedFrom v address node

-- ---- the same as tests; of members alone, that of eligibility
-- the advertisement chooses the pool and selects the node
abbrev pub advertises : ViewValue → List ℕ → CompiledPool → CompiledL2 → Bool
advertises v node pool adv = chooses adv.pools adv.pool_selectors pool.name pool.labels && selects adv.node_selectors (node_labels v node)

-- some of these advertisements passes, of those that are for the pool
abbrev pub passes_for : (CompiledPool → CompiledL2 → Bool) → List CompiledL2 → Option CompiledPool → Bool
passes_for test l2 None = false
passes_for test l2 (Some pool) = list_any (test pool) l2

-- some advertisement of the configuration passes, for the pool that has the address
abbrev pub passes_in : (CompiledPool → CompiledL2 → Bool) → AddressValue → Option ConfigValue → Bool
passes_in test address None = false
passes_in test address (Some config) = passes_for test config.l2 (pool_with config.pools address)

abbrev pub is_advertised : ViewValue → List ℕ → AddressValue → Bool
is_advertised v node address = passes_in (advertises v node) address v.held.config

abbrev pub is_eligible : ViewValue → AddressValue → List ℕ → Bool
is_eligible v address node = is_advertised v node address && announced_from v address node

-- that of eligibility for an address of the pool, by these advertisements
abbrev pub is_eligible_by : ViewValue → AddressValue → CompiledPool → List CompiledL2 → List ℕ → Bool
is_eligible_by v address pool l2 node = list_any (advertises v node pool) l2 && announced_from v address node

-- ---- laws
-- where all stays that decides who may announce an address but at some nodes, the same others are eligible for it
abbrev pub EligibleNodesStay : Type 0
EligibleNodesStay = (v w : ViewValue) (nodes : List (List ℕ)) (address : AddressValue) → StaysAt v w nodes address
    → (node : List ℕ) → ¬ (Contains nodes node) → IsEligible w address node ↔ IsEligible v address node
