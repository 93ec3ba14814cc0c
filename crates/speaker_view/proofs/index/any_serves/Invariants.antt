use Rattle.std.proofs.Common.{◌≡◌}
use Rattle.std.specs.List.{list_any}
use Rattle.kube_model.specs.Keys.{key_cmp}
use Rattle.versioned_map.specs.Objects.{object_at}
use Rattle.speaker_view.specs.Endpoints.{slice_serves}
use Rattle.speaker_view.specs.Index.{passes}
use Rattle.speaker_view.proofs.index.any_serves.Given as goal

abbrev pub invariant-loop-key : goal.invariant-loop-key
invariant-loop-key l =
    list_any (λ key. passes (slice_serves l.service l.policy l.node) (object_at key_cmp l.cache.slices key)) l.key-iterator
    ≡ list_any (λ key. passes (slice_serves l.service l.policy l.node) (object_at key_cmp l.cache.slices key)) l.keys.keys
