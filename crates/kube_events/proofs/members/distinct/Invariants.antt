use Rattle.std.proofs.Common.{◌≡◌}
use Rattle.std.specs.Vec.Iter.{into_iter_items}
use Rattle.kube_events.specs.Members.{names_with, distinct_names}
use Rattle.kube_events.proofs.members.distinct.Given as goal

abbrev pub invariant-loop-name : goal.invariant-loop-name
invariant-loop-name l = names_with l.found.keys (into_iter_items l.name-iterator) ≡ distinct_names l.fn.names
