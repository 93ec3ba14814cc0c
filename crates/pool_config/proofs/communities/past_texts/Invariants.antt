use Rattle.std.proofs.Common.{◌≡◌}
use Rattle.pool_config.specs.Objects.{named}
use Rattle.pool_config.specs.Search.{first_past}
use Rattle.pool_config.proofs.communities.past_texts.Given as goal

abbrev pub invariant-loop-name : goal.invariant-loop-name
invariant-loop-name l = first_past 512 l.texts.keys (named l.name-iterator) ≡ first_past 512 l.initial.texts.keys (named l.bgps)
