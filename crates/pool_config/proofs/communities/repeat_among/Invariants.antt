use Rattle.std.proofs.Common.{◌≡◌}
use Rattle.pool_config.specs.Objects.{named}
use Rattle.pool_config.specs.Search.{first_repeat}
use Rattle.pool_config.proofs.communities.repeat_among.Given as goal

abbrev pub invariant-loop-name : goal.invariant-loop-name
invariant-loop-name l = first_repeat l.names.keys (named l.name-iterator) ≡ first_repeat l.initial.names.keys (named l.communities)
