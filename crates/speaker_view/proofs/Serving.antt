-- The tests of endpoints and services decide what they should.
use Rattle.std.proofs.Common.{◌≡◌, ◌↔◌, ℕ, Bool, true, not, is_some, ◌&&◌, List, Option, Some, None, refl, sym, ap, ◌∙◌, Decides}
use Rattle.std.proofs.lemmas.Bool.{and_parts, and_from, false≢true}
use Rattle.std.proofs.lemmas.Slice.Eq.{bytes_eq-Decides}
use Rattle.std.specs.List.{list_any}
use Rattle.std.specs.Str.{bytes_eq}
use Rattle.mlb_base.proofs.Among.{any-found, any-contains}
use Rattle.ip_ranges.specs.Values.{AddressValue, has_address}
use Rattle.ip_ranges.proofs.AddressLaws.{has_address-is, has_address-from}
use Rattle.kube_labels.specs.Pairs.{value_of}
use Rattle.kube_model.specs.declared.service.Policy.{Policy}
use Rattle.kube_model.specs.declared.service.Policy.TheVariants.{Cluster, Local}
use Rattle.kube_model.specs.declared.service.Service.{Service}
use Rattle.kube_model.specs.declared.slice.Endpoint.{Endpoint}
use Rattle.kube_model.specs.declared.slice.EndpointSlice.{EndpointSlice}
use Rattle.kube_model.specs.Service.{is_handled, same_class}
use Rattle.speaker_view.specs.Held.{objects_of}
use Rattle.speaker_view.specs.ViewValue.{ViewValue}
use Rattle.speaker_view.specs.Endpoints.{ServesFrom, HasEndpoint, CanAnnounce, reaches, serves_from, is_slice_of, slice_serves}
use Rattle.speaker_view.specs.Endpoints.{endpoint_for, node_labels, exclude_label, allows_balancers, can_announce, announced_from}
use Rattle.speaker_view.specs.Advertised.{IsAnnouncedFrom}

reaches-Decides : (policy : Policy) (node : List ℕ) (at : Option (List ℕ)) → Decides (reaches policy node at) (policy ≡ Local → at ≡ Some node)
reaches-Decides Cluster node at = (λ e local. absurd (cc), λ h. refl)
reaches-Decides Local node None = (λ e. absurd (false≢true e), λ h. let wrong : None ≡ Some node = h refl in absurd (cc))
reaches-Decides Local node (Some at) = (
  λ e local. ap (λ (x : List ℕ). Some x) ((bytes_eq-Decides at node).0 e),
  λ h. let is : Some at ≡ Some node = h refl in (bytes_eq-Decides at node).1 (cc),
)

serves_from-Decides : (policy : Policy) (node : List ℕ) (endpoint : Endpoint) → Decides (serves_from policy node endpoint) (ServesFrom policy node endpoint)
serves_from-Decides policy node endpoint = (
  λ e.
      let parts = and_parts endpoint.usable (reaches policy node endpoint.node) e in
      record { usable = parts.0; local = (reaches-Decides policy node endpoint.node).0 parts.1 },
  λ s. and_from endpoint.usable (reaches policy node endpoint.node) s.usable ((reaches-Decides policy node endpoint.node).1 s.local),
)

module _ (v : ViewValue) (service : Service) (node : List ℕ) where
  endpoint-found : endpoint_for v service node ≡ true → HasEndpoint v service node
  endpoint-found e =
      let some = any-found (slice_serves service.key service.policy node) (objects_of v.held.slices) e in
      let slice : EndpointSlice = some.0 in
      let parts = and_parts (is_slice_of service.key slice) (list_any (serves_from service.policy node) slice.endpoints) some.2 in
      let names = and_parts (bytes_eq slice.key.namespace service.key.namespace) (bytes_eq slice.service service.key.name) parts.0 in
      let one = any-found (serves_from service.policy node) slice.endpoints parts.1 in
      record {
        slice = slice;
        held = some.1;
        namespace = (bytes_eq-Decides slice.key.namespace service.key.namespace).0 names.0;
        name = (bytes_eq-Decides slice.service service.key.name).0 names.1;
        endpoint = one.0;
        there = one.1;
        serves = (serves_from-Decides service.policy node one.0).0 one.2;
      }

  found-endpoint : HasEndpoint v service node → endpoint_for v service node ≡ true
  found-endpoint h =
      let names = and_from (bytes_eq h.slice.key.namespace service.key.namespace) (bytes_eq h.slice.service service.key.name)
      ((bytes_eq-Decides h.slice.key.namespace service.key.namespace).1 h.namespace) ((bytes_eq-Decides h.slice.service service.key.name).1 h.name) in
      let some = any-contains (serves_from service.policy node) h.slice.endpoints h.endpoint h.there
      ((serves_from-Decides service.policy node h.endpoint).1 h.serves) in
      any-contains (slice_serves service.key service.policy node) (objects_of v.held.slices) h.slice h.held
      (and_from (is_slice_of service.key h.slice) (list_any (serves_from service.policy node) h.slice.endpoints) names some)

  -- what a call answers by the test
  pub endpoint-means : (answer : Bool) → answer ≡ endpoint_for v service node → (answer ≡ true) ↔ HasEndpoint v service node
  endpoint-means answer is = (λ e. endpoint-found (sym is ∙ e), λ h. is ∙ found-endpoint h)

class-Decides : (a b : Option (List ℕ)) → Decides (same_class a b) (a ≡ b)
class-Decides None None = (λ _. refl, λ _. refl)
class-Decides None (Some b) = (λ e. absurd (false≢true e), λ h. absurd (cc))
class-Decides (Some a) None = (λ e. absurd (false≢true e), λ h. absurd (cc))
class-Decides (Some a) (Some b) = (
  λ e. ap (λ (x : List ℕ). Some x) ((bytes_eq-Decides a b).0 e),
  λ h. (bytes_eq-Decides a b).1 (cc),
)

nothing_found : {X : Type 0} (found : Option X) → Decides (not (is_some found)) (found ≡ None)
nothing_found None = (λ _. refl, λ _. refl)
nothing_found (Some x) = (λ e. absurd (false≢true e), λ h. absurd (cc))

module _ (v : ViewValue) (service : Service) (node : List ℕ) where
  announced : can_announce v service node ≡ true → CanAnnounce v service node
  announced e =
      let parts = and_parts (is_handled v.class service && endpoint_for v service node) (allows_balancers (node_labels v node)) e in
      let more = and_parts (is_handled v.class service) (endpoint_for v service node) parts.0 in
      let handled = and_parts service.balancer (same_class v.class service.class) more.0 in
      record {
        balancer = handled.0;
        class = (class-Decides v.class service.class).0 handled.1;
        endpoint = endpoint-found v service node more.1;
        allowed = (nothing_found (value_of exclude_label (node_labels v node))).0 parts.1;
      }

  can-announced : CanAnnounce v service node → can_announce v service node ≡ true
  can-announced a =
      let handled = and_from service.balancer (same_class v.class service.class) a.balancer ((class-Decides v.class service.class).1 a.class) in
      and_from (is_handled v.class service && endpoint_for v service node) (allows_balancers (node_labels v node))
      (and_from (is_handled v.class service) (endpoint_for v service node) handled (found-endpoint v service node a.endpoint))
      ((nothing_found (value_of exclude_label (node_labels v node))).1 a.allowed)

  pub can_announce-Decides : Decides (can_announce v service node) (CanAnnounce v service node)
  can_announce-Decides = (announced, can-announced)

  -- what a call answers by the test
  pub announce-means : (answer : Bool) → answer ≡ can_announce v service node → (answer ≡ true) ↔ CanAnnounce v service node
  announce-means answer is = (λ e. announced (sym is ∙ e), λ a. is ∙ can-announced a)

-- an address is announced from a node where the test says so
module _ (v : ViewValue) (address : AddressValue) (node : List ℕ) where
  abbrev announces : Service → Bool
  announces service = has_address service.holding.addresses address && can_announce v service node

  pub announced_from-Decides : Decides (announced_from v address node) (IsAnnouncedFrom v address node)
  announced_from-Decides = (
    λ e.
        let found = any-found announces (objects_of v.held.services) e in
        let service : Service = found.0 in
        let both = and_parts (has_address service.holding.addresses address) (can_announce v service node) found.2 in
        record {
          service = service;
          held = found.1;
          recorded = has_address-is service.holding.addresses address both.0;
          announces = (can_announce-Decides v service node).0 both.1;
        },
    λ h.
        any-contains announces (objects_of v.held.services) h.service h.held
        (and_from (has_address h.service.holding.addresses address) (can_announce v h.service node)
        (has_address-from h.service.holding.addresses address h.recorded) ((can_announce-Decides v h.service node).1 h.announces)),
  )
