use Rattle.std.proofs.Common.{◌≡◌, map}
use Rattle.pool_config.specs.Faults.{with_large}
use Rattle.pool_config.specs.Objects.{named}
use Rattle.pool_config.specs.Search.{first_past}
use Rattle.pool_config.proofs.communities.past_large.Given as goal

abbrev pub invariant-loop-name : goal.invariant-loop-name
invariant-loop-name l = first_past 128 l.texts.keys (map (with_large (named l.communities)) (named l.name-iterator))
    ≡ first_past 128 l.initial.texts.keys (map (with_large (named l.communities)) (named l.bgps))
