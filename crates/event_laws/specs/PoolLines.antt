-- The lines that spell pools.
use Rattle.std.specs.Prelude.{◌≡◌, ◌≤◌, ℕ, List, [], ◌∷◌, Bool, true, false, Option, option_map, Ok, IfSome, unwrap_or, codes}
use Rattle.serde_json.specs.Data.{Data, boolean}
use Rattle.kube_model.specs.declared.event.Event.TheVariants.{Changed}
use Rattle.kube_model.specs.declared.object.Object.TheVariants as objects
use Rattle.kube_model.specs.declared.pool.Pool.{Pool}
use Rattle.kube_model.specs.declared.pool.Allocation.{Allocation}
use Rattle.kube_events.specs.Event.{event_of_line}
use Rattle.event_laws.specs.ObjectLines.{Field, Head, IsHead, spelled, pairs_spelled, object_line, texts_data}
use Rattle.event_laws.specs.ObjectLines.{number_data, SelectorLines, selectors_data, selectors_spelled, Spells}

-- what is chosen freely of `serviceAllocation`
pub record AllocationLine : Type 0 where
  pub priority : Option ℕ
  pub namespaces : Option (List (List ℕ))
  pub namespace_selectors : SelectorLines
  pub service_selectors : SelectorLines

abbrev pub allocation_data : AllocationLine → Data
allocation_data a = spelled (
    (codes "namespaceSelectors", selectors_data a.namespace_selectors) ∷
    (codes "namespaces", option_map texts_data a.namespaces) ∷
    (codes "priority", option_map number_data a.priority) ∷
    (codes "serviceSelectors", selectors_data a.service_selectors) ∷ [])

abbrev pub allocation_spelled : AllocationLine → Allocation
allocation_spelled a = record {
  priority = unwrap_or a.priority 0;
  namespaces = unwrap_or a.namespaces [];
  namespace_selectors = selectors_spelled a.namespace_selectors;
  service_selectors = selectors_spelled a.service_selectors;
}

-- the priority is in its range
abbrev pub IsAllocation : AllocationLine → Type 0
IsAllocation a = IfSome a.priority (λ n. n ≤ 2147483647)

-- what is chosen freely of the line; a spec without any member may be left out
pub record PoolLine : Type 0 where
  pub head : Head
  pub without_spec : Bool
  pub entries : Option (List (List ℕ))
  pub auto_assign : Option Bool
  pub avoid_buggy : Option Bool
  pub allocation : Option AllocationLine

abbrev pub pool_fields : PoolLine → List Field
pool_fields s =
    (codes "addresses", option_map texts_data s.entries) ∷
    (codes "autoAssign", option_map boolean s.auto_assign) ∷
    (codes "avoidBuggyIPs", option_map boolean s.avoid_buggy) ∷
    (codes "serviceAllocation", option_map allocation_data s.allocation) ∷ []

abbrev pub pool_line : PoolLine → Data
pool_line s = object_line (codes "IPAddressPool") s.head s.without_spec (pool_fields s)

-- the pool that the line spells
abbrev pub pool_spelled : PoolLine → Pool
pool_spelled s = record {
  name = s.head.name;
  labels = pairs_spelled s.head.labels;
  entries = unwrap_or s.entries [];
  auto_assign = unwrap_or s.auto_assign true;
  avoid_buggy = unwrap_or s.avoid_buggy false;
  allocation = option_map allocation_spelled s.allocation;
}

-- The line that spells a pool is read as it.
abbrev pub PoolsAreRead : Type 0
PoolsAreRead = (line : List ℕ) (s : PoolLine) (n : ℕ) → Spells line (pool_line s) → IsHead s.head n → IfSome s.allocation IsAllocation
    → event_of_line line ≡ Ok (Changed n (objects.Pool (pool_spelled s)))
