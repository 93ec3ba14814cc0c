use Rattle.std.proofs.Common.{◌≡◌, ◌++◌, drop}
use Rattle.pool_choice.specs.Eligible.{ranked_from}
use Rattle.pool_choice.proofs.choice.offered.Given as goal

abbrev pub invariant-loop-place : goal.invariant-loop-place
invariant-loop-place l = l.ranked.items ++ ranked_from l.service l.namespace l.place (drop l.place l.pools) ≡ ranked_from l.service l.namespace 0 l.pools
