use Rattle.std.proofs.Common.{◌≡◌, ◌++◌, filter, map}
use Rattle.speaker_view.specs.Nodes.{drops_labels}
use Rattle.speaker_view.proofs.nodes.dropped_nodes.Given as goal

abbrev pub invariant-loop-name : goal.invariant-loop-name
invariant-loop-name l =
    l.names ++ map (λ e. e.0) (filter drops_labels l.name-iterator) ≡ map (λ e. e.0) (filter drops_labels l.view.held.nodes)
