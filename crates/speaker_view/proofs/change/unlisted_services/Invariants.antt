use Rattle.std.proofs.Common.{◌≡◌, ◌++◌, filter}
use Rattle.std.specs.List.{flat_map}
use Rattle.speaker_view.specs.Change.{is_unlisted}
use Rattle.speaker_view.proofs.change.unlisted_services.Given as goal

abbrev pub invariant-loop-key : goal.invariant-loop-key
invariant-loop-key l =
    l.found.items ++ flat_map (λ e. e.1.object.holding.addresses) (filter is_unlisted l._key-iterator)
    ≡ flat_map (λ e. e.1.object.holding.addresses) (filter is_unlisted l.view.held.services)
