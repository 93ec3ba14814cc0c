use Rattle.std.proofs.Common.{◌≡◌}
use Rattle.std.specs.List.{list_any}
use Rattle.kube_model.specs.Keys.{key_cmp}
use Rattle.versioned_map.specs.Objects.{object_at}
use Rattle.speaker_view.specs.Index.{records_in}
use Rattle.speaker_view.proofs.index.one_records.Given as goal

abbrev pub invariant-loop-key : goal.invariant-loop-key
invariant-loop-key l =
    list_any (λ key. records_in (object_at key_cmp l.cache.services key) l.address) l.key-iterator
    ≡ list_any (λ key. records_in (object_at key_cmp l.cache.services key) l.address) l.keys.keys
