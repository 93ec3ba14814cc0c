-- Which pools and nodes an advertisement is for, of whichever kind, and what is announced from a node.
use Rattle.std.specs.Prelude.{◌≡◌, ℕ, List, Some, Contains}
use Rattle.ip_ranges.specs.Values.{AddressValue}
use Rattle.kube_labels.specs.SelectorValue.{SelectorValue}
use Rattle.kube_model.specs.declared.service.Service.{Service}
use Rattle.pool_config.specs.declared.compiled.CompiledPool.{CompiledPool}
use Rattle.pool_config.specs.Choice.{Chooses, Selects}
use Rattle.pool_config.specs.ConfigValue.{ConfigValue}
use Rattle.pool_config.specs.PoolOf.{pool_with}
use Rattle.speaker_view.specs.Endpoints.{CanAnnounce, node_labels}
use Rattle.speaker_view.specs.Held.{objects_of}
use Rattle.speaker_view.specs.ViewValue.{ViewValue}

-- The configuration is in force. An advertisement with these pool names and selectors (`spec.ipAddressPools`, `spec.ipAddressPoolSelectors`) chooses its
-- pool that has the address, and with these node selectors (`spec.nodeSelectors`) selects the node.
pub record IsMeant (v : ViewValue) (address : AddressValue) (node : List ℕ) (config : ConfigValue) (names : List (List ℕ))
    (pool_selectors node_selectors : List SelectorValue) : Type 0 where
  pub in_force : v.held.config ≡ Some config
  pub pool : CompiledPool
  pub pool_is : pool_with config.pools address ≡ Some pool
  pub chosen : Chooses names pool_selectors pool.name pool.labels
  pub selected : Selects node_selectors (node_labels v node)

-- Some held service is recorded with the address, and can be announced from the node.
pub record IsAnnouncedFrom (v : ViewValue) (address : AddressValue) (node : List ℕ) : Type 0 where
  pub service : Service
  pub held : Contains (objects_of v.held.services) service
  pub recorded : Contains service.holding.addresses address
  pub announces : CanAnnounce v service node
