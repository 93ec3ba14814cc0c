use Rattle.std.proofs.Common.{◌≡◌, drop, filter, not}
use Rattle.std.specs.BTreeSet.{contains}
use Rattle.kube_labels.specs.Names.{name_cmp}
use Rattle.pool_config.specs.KeySets.{keys_with}
use Rattle.speaker_view.proofs.nodes.insert_missing.Given as goal

abbrev pub invariant-loop-name : goal.invariant-loop-name
invariant-loop-name l =
    keys_with name_cmp l.found.keys (filter (λ name. not (contains name_cmp l.others name)) (drop l.name-index l.names))
    ≡ keys_with name_cmp l.fn.found.keys (filter (λ name. not (contains name_cmp l.others name)) l.names)
