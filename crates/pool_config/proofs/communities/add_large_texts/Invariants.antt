use Rattle.std.proofs.Common.{◌≡◌, drop, filter}
use Rattle.kube_labels.specs.Names.{name_cmp}
use Rattle.pool_config.specs.Faults.{counts_as_large}
use Rattle.pool_config.specs.KeySets.{keys_with}
use Rattle.pool_config.specs.Objects.{named}
use Rattle.pool_config.proofs.communities.add_large_texts.Given as goal

abbrev pub invariant-loop-text : goal.invariant-loop-text
invariant-loop-text l =
    keys_with name_cmp l.held.keys (filter (counts_as_large (named l.communities)) (drop l.text-index l.texts))
    ≡ keys_with name_cmp l.initial.held.keys (filter (counts_as_large (named l.communities)) l.texts)
