-- The tests of what a pool serves are its relation.
use Rattle.std.proofs.Common.{ℕ, ◌&&◌, ◌||◌, List, Option, Some, None, Decides, refl}
use Rattle.std.proofs.lemmas.Bool.Decides.{Decides-and, Decides-or}
use Rattle.mlb_base.proofs.Among.{any-found, any-contains}
use Rattle.mlb_base.specs.Items.{is_nil}
use Rattle.mlb_base.proofs.Lists.{Decides-nil}
pub use Rattle.mlb_base.proofs.Lists.{Decides-nil as nil-Decides}
use Rattle.kube_labels.specs.Names.{has_text}
use Rattle.kube_labels.specs.SelectorValue.{SelectorValue}
use Rattle.kube_labels.specs.Selectors.{matches, any_matches}
use Rattle.kube_labels.proofs.NameLaws.{has_text-Decides}
use Rattle.kube_model.specs.declared.service.Service.{Service}
use Rattle.pool_config.specs.declared.compiled.CompiledAllocation.{CompiledAllocation}
use Rattle.pool_config.specs.declared.compiled.CompiledPool.{CompiledPool}
use Rattle.pool_choice.specs.Serving.{IsMatched, PassesNamespace, PassesService, ServesBy, Serves, namespace_passes, service_passes, serves_by, serves}

matched-Decides : (selectors : List SelectorValue) (labels : List (List ℕ × List ℕ)) → Decides (any_matches selectors labels) (IsMatched selectors labels)
matched-Decides selectors labels = (
  λ e. any-found (λ selector. matches selector labels) selectors e,
  λ h. any-contains (λ selector. matches selector labels) selectors h.0 h.1 h.2,
)

namespace-Decides : (a : CompiledAllocation) (name : List ℕ) (labels : List (List ℕ × List ℕ))
    → Decides (namespace_passes a name labels) (PassesNamespace a name labels)
namespace-Decides a name labels =
    Decides-or (is_nil a.namespaces && is_nil a.namespace_selectors) (has_text a.namespaces name || any_matches a.namespace_selectors labels)
    (Decides-and (is_nil a.namespaces) (is_nil a.namespace_selectors) (Decides-nil a.namespaces) (Decides-nil a.namespace_selectors))
    (Decides-or (has_text a.namespaces name) (any_matches a.namespace_selectors labels) (has_text-Decides a.namespaces name)
    (matched-Decides a.namespace_selectors labels))

service-Decides : (a : CompiledAllocation) (labels : List (List ℕ × List ℕ)) → Decides (service_passes a labels) (PassesService a labels)
service-Decides a labels =
    Decides-or (is_nil a.service_selectors) (any_matches a.service_selectors labels) (Decides-nil a.service_selectors)
    (matched-Decides a.service_selectors labels)

serves_by-Decides : (a : Option CompiledAllocation) (service : Service) (labels : List (List ℕ × List ℕ))
    → Decides (serves_by a service labels) (ServesBy a service labels)
serves_by-Decides None service labels = (λ _. tt, λ _. refl)
serves_by-Decides (Some a) service labels =
    Decides-and (namespace_passes a service.key.namespace labels) (service_passes a service.labels) (namespace-Decides a service.key.namespace labels)
    (service-Decides a service.labels)

pub serves-Decides : (service : Service) (labels : List (List ℕ × List ℕ)) (pool : CompiledPool)
    → Decides (serves service labels pool) (Serves service labels pool)
serves-Decides service labels pool = serves_by-Decides pool.allocation service labels
