-- Where no service that records an address has a usable endpoint, no node announces it.
use Rattle.std.proofs.Common.{◌≡◌, ℕ, Bool, true, false, ◌&&◌, List, [], refl}
use Rattle.std.proofs.lemmas.Bool.{and_parts, and_from}
use Rattle.std.specs.List.{list_any}
use Rattle.mlb_base.proofs.Among.{any-found, any-contains}
use Rattle.mlb_base.proofs.Bools.{false_before}
use Rattle.ip_ranges.specs.Values.{AddressValue, has_address}
use Rattle.kube_model.specs.declared.service.Policy.TheVariants.{Cluster}
use Rattle.kube_model.specs.declared.service.Service.{Service}
use Rattle.kube_model.specs.declared.slice.Endpoint.{Endpoint}
use Rattle.kube_model.specs.declared.slice.EndpointSlice.{EndpointSlice}
use Rattle.kube_model.specs.Service.{is_handled}
use Rattle.speaker_view.specs.Endpoints.{allows_balancers, announced_from, can_announce, endpoint_for, has_usable}
use Rattle.speaker_view.specs.Endpoints.{is_served_in, is_slice_of, node_labels, reaches, serves_from, slice_serves}
use Rattle.speaker_view.specs.Held.{objects_of}
use Rattle.speaker_view.specs.ViewValue.{ViewValue}

-- what passes the one test passes the other, so some does
pub any-implies : {X : Type 0} (p q : X → Bool) → ((x : X) → p x ≡ true → q x ≡ true) → (xs : List X) → list_any p xs ≡ true → list_any q xs ≡ true
any-implies p q implies xs e =
    let some = any-found p xs e in
    any-contains q xs some.0 some.1 (implies some.0 some.2)

module _ (v : ViewValue) (node : List ℕ) where
  pub endpoint-usable : (service : Service) → endpoint_for v service node ≡ true → has_usable v service ≡ true
  endpoint-usable service =
      any-implies (slice_serves service.key service.policy node) (slice_serves service.key Cluster [])
      (λ (slice : EndpointSlice) e.
      let parts = and_parts (is_slice_of service.key slice) (list_any (serves_from service.policy node) slice.endpoints) e in
      and_from (is_slice_of service.key slice) (list_any (serves_from Cluster []) slice.endpoints) parts.0
      (any-implies (serves_from service.policy node) (serves_from Cluster [])
      (λ (endpoint : Endpoint) s. and_from endpoint.usable true (and_parts endpoint.usable (reaches service.policy node endpoint.node) s).0 refl)
      slice.endpoints parts.1))
      (objects_of v.held.slices)

  announced-served : (a : AddressValue) → announced_from v a node ≡ true → is_served_in v a ≡ true
  announced-served a =
      any-implies (λ (s : Service). has_address s.holding.addresses a && can_announce v s node) (λ s. has_address s.holding.addresses a && has_usable v s)
      (λ (service : Service) e.
      let parts = and_parts (has_address service.holding.addresses a) (can_announce v service node) e in
      let more = and_parts (is_handled v.class service && endpoint_for v service node) (allows_balancers (node_labels v node)) parts.1 in
      let last = and_parts (is_handled v.class service) (endpoint_for v service node) more.0 in
      and_from (has_address service.holding.addresses a) (has_usable v service) parts.0 (endpoint-usable service last.1))
      (objects_of v.held.services)

  pub unserved-nowhere : (a : AddressValue) → is_served_in v a ≡ false → announced_from v a node ≡ false
  unserved-nowhere a = false_before (announced_from v a node) (is_served_in v a) (announced-served a)
