-- Which services a pool serves (MetalLB, `spec.serviceAllocation` of an IPAddressPool).
use Rattle.std.specs.Prelude.{◌≡◌, ℕ, List, [], Bool, true, ◌&&◌, ◌||◌, ◌⊎◌, Option, Some, None, Contains, IsTrue, ⊤}
use Rattle.kube_labels.specs.Names.{has_text}
use Rattle.kube_labels.specs.SelectorValue.{SelectorValue}
use Rattle.kube_labels.specs.Selectors.{matches, any_matches}
use Rattle.mlb_base.specs.Items.{is_nil}
use Rattle.kube_model.specs.declared.service.Service.{Service}
use Rattle.pool_config.specs.declared.compiled.CompiledAllocation.{CompiledAllocation}
use Rattle.pool_config.specs.declared.compiled.CompiledPool.{CompiledPool}

-- one of the selectors matches the labels
abbrev pub IsMatched : List SelectorValue → List (List ℕ × List ℕ) → Type 0
IsMatched selectors labels = (selector : SelectorValue) × Contains selectors selector × IsTrue (matches selector labels)

-- the namespace part is empty, or the namespace is listed, or a selector matches its labels
abbrev pub PassesNamespace : CompiledAllocation → List ℕ → List (List ℕ × List ℕ) → Type 0
PassesNamespace a name labels =
    ((a.namespaces ≡ []) × (a.namespace_selectors ≡ [])) ⊎ (Contains a.namespaces name ⊎ IsMatched a.namespace_selectors labels)

-- the service part is empty, or a selector matches the service's labels
abbrev pub PassesService : CompiledAllocation → List (List ℕ × List ℕ) → Type 0
PassesService a labels = (a.service_selectors ≡ []) ⊎ IsMatched a.service_selectors labels

-- a pool without a service allocation serves every service; else both parts must pass
abbrev pub ServesBy : Option CompiledAllocation → Service → List (List ℕ × List ℕ) → Type 0
ServesBy None service labels = ⊤
ServesBy (Some a) service labels = PassesNamespace a service.key.namespace labels × PassesService a service.labels

-- the pool serves the service, whose namespace has these labels
abbrev pub Serves : Service → List (List ℕ × List ℕ) → CompiledPool → Type 0
Serves service labels pool = ServesBy pool.allocation service labels

-- The same as tests.
abbrev pub namespace_passes : CompiledAllocation → List ℕ → List (List ℕ × List ℕ) → Bool
namespace_passes a name labels =
    (is_nil a.namespaces && is_nil a.namespace_selectors) || (has_text a.namespaces name || any_matches a.namespace_selectors labels)

abbrev pub service_passes : CompiledAllocation → List (List ℕ × List ℕ) → Bool
service_passes a labels = is_nil a.service_selectors || any_matches a.service_selectors labels

abbrev pub serves_by : Option CompiledAllocation → Service → List (List ℕ × List ℕ) → Bool
serves_by None service labels = true
serves_by (Some a) service labels = namespace_passes a service.key.namespace labels && service_passes a service.labels

abbrev pub serves : Service → List (List ℕ × List ℕ) → CompiledPool → Bool
serves service labels pool = serves_by pool.allocation service labels
