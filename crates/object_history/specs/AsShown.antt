-- What is held is what the look back shows.
use Rattle.std.specs.Prelude.{◌≡◌, ◌↔◌, true, List, Some}
use Rattle.versioned_map.specs.declared.map.Versioned.{Versioned}
use Rattle.versioned_map.specs.Objects.{version_at}
use Rattle.kube_model.specs.declared.event.ListGroup.TheVariants as groups
use Rattle.pool_config.specs.ConfigValue.{ConfigValue}
use Rattle.object_history.specs.Observations.{Observation}
use Rattle.object_history.specs.Kinds.{Resource, service_resource, pool_resource, l2_resource, bgp_resource, peer_resource}
use Rattle.object_history.specs.Kinds.{community_resource, namespace_resource, node_resource, slice_resource}
use Rattle.object_history.specs.LookBack.{version_last_shown, AreAsShown, IsSetAsShown, HasEnded, IsInForce}
use Rattle.object_history.specs.Cache.{Cached, cached}

-- All that is held is what the look back shows.
pub record IsAsShown (s : Cached) (observations : List Observation) : Type 0 where
  pub services : AreAsShown service_resource s.services observations
  pub config_objects : IsSetAsShown s.objects observations
  pub namespaces : AreAsShown namespace_resource s.namespaces observations
  pub nodes : AreAsShown node_resource s.nodes observations
  pub slices : AreAsShown slice_resource s.slices observations
  pub config_ended : (s.config_ended ≡ true) ↔ HasEnded groups.Config observations
  pub services_ended : (s.services_ended ≡ true) ↔ HasEnded groups.Service observations
  pub endpoints_ended : (s.endpoints_ended ≡ true) ↔ HasEnded groups.Endpoint observations
  pub config : (config : ConfigValue) → (s.config ≡ Some config) ↔ IsInForce config observations

-- whatever was observed
abbrev pub AllIsAsShown : Type 0
AllIsAsShown = (observations : List Observation) → IsAsShown (cached observations) observations

-- each key is held at the version last shown of it, and counts as held at version 0 where it isn't held
abbrev pub AreVersionsShown : {K T : Type 0} → Resource K T → List (K × Versioned T) → List Observation → Type 0
AreVersionsShown {K} {T} resource entries observations =
    (key : K) → version_at resource.cmp entries key ≡ version_last_shown resource key observations

-- So is every key of every kind.
pub record HasVersionsShown (s : Cached) (observations : List Observation) : Type 0 where
  pub services : AreVersionsShown service_resource s.services observations
  pub pools : AreVersionsShown pool_resource s.objects.pools observations
  pub l2s : AreVersionsShown l2_resource s.objects.l2s observations
  pub bgps : AreVersionsShown bgp_resource s.objects.bgps observations
  pub peers : AreVersionsShown peer_resource s.objects.peers observations
  pub communities : AreVersionsShown community_resource s.objects.communities observations
  pub namespaces : AreVersionsShown namespace_resource s.namespaces observations
  pub nodes : AreVersionsShown node_resource s.nodes observations
  pub slices : AreVersionsShown slice_resource s.slices observations

-- whatever was observed
abbrev pub AllVersionsAreShown : Type 0
AllVersionsAreShown = (observations : List Observation) → HasVersionsShown (cached observations) observations
