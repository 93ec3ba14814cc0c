use Rattle.std.proofs.Common.{◌≡◌, ◌++◌, filter, Some}
use Rattle.std.specs.List.{flat_map}
use Rattle.speaker_view.specs.Change.{is_unlisted, served_by}
use Rattle.speaker_view.proofs.change.unlisted_slices.Given as goal

abbrev pub invariant-loop-key : goal.invariant-loop-key
invariant-loop-key l =
    l.found.items ++ flat_map (λ e. served_by l.view (Some e.1.object)) (filter is_unlisted l._key-iterator)
    ≡ flat_map (λ e. served_by l.view (Some e.1.object)) (filter is_unlisted l.view.held.slices)
