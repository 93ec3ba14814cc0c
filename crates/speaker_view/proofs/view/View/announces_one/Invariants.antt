use Rattle.std.proofs.Common.{◌≡◌, ◌&&◌}
use Rattle.std.specs.List.{list_any}
use Rattle.ip_ranges.specs.Values.{has_address}
use Rattle.kube_model.specs.Keys.{key_cmp}
use Rattle.versioned_map.specs.Objects.{object_at}
use Rattle.speaker_view.specs.Endpoints.{can_announce}
use Rattle.speaker_view.specs.Index.{passes}
use Rattle.speaker_view.proofs.view.View.announces_one.Given as goal

abbrev pub invariant-loop-key : goal.invariant-loop-key
invariant-loop-key l =
    list_any (λ key. passes (λ service. has_address service.holding.addresses l.address && can_announce l.self service l.node)
    (object_at key_cmp l.self.held.services key)) l.key-iterator
    ≡ list_any (λ key. passes (λ service. has_address service.holding.addresses l.address && can_announce l.self service l.node)
    (object_at key_cmp l.self.held.services key)) l.keys.keys
