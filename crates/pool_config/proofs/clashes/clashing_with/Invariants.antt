use Rattle.std.proofs.Common.{◌≡◌, drop, find}
use Rattle.std.specs.Option.{option_map}
use Rattle.pool_config.specs.Search.{clash}
use Rattle.pool_config.proofs.clashes.clashing_with.Given as goal

abbrev pub invariant-loop-other : goal.invariant-loop-other
invariant-loop-other l = option_map (λ a. a.name) (find (clash l.pools l.advertisement) (drop l.other-index l.behind))
    ≡ option_map (λ a. a.name) (find (clash l.pools l.advertisement) l.behind)
