use Rattle.std.proofs.Common.{◌≡◌, drop, []}
use Rattle.kube_labels.specs.Names.{name_cmp}
use Rattle.pool_config.specs.KeySets.{keys_with}
use Rattle.speaker_view.proofs.nodes.name_set.Given as goal

abbrev pub invariant-loop-name : goal.invariant-loop-name
invariant-loop-name l = keys_with name_cmp l.set.keys (drop l.name-index l.names) ≡ keys_with name_cmp [] l.names
