use Rattle.std.proofs.Common.{◌≡◌, drop}
use Rattle.pool_config.specs.KeySets.{keys_with}
use Rattle.bgp_routes.proofs.uniting.add_all.Given as goal

abbrev pub invariant-loop-key : goal.invariant-loop-key
invariant-loop-key g l = keys_with g.K.Ord.cmp l.set.keys (drop l.key-index l.keys) ≡ keys_with g.K.Ord.cmp l.initial.set.keys l.keys
