use Rattle.std.proofs.Common.{◌≡◌, drop}
use Rattle.std.specs.List.{filter_map}
use Rattle.pool_config.specs.KeySets.{keys_with}
use Rattle.large_numbers.specs.Large.{large_cmp}
use Rattle.pool_config.specs.Objects.{named}
use Rattle.pool_config.specs.Lists.{large_in, larges_in}
use Rattle.pool_config.proofs.communities.read_larges.Given as goal

abbrev pub invariant-loop-text : goal.invariant-loop-text
invariant-loop-text l =
    keys_with large_cmp l.numbers.keys (filter_map (large_in (named l.communities)) (drop l.text-index l.texts)) ≡ larges_in (named l.communities) l.texts
