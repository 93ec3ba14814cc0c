use Rattle.std.proofs.Common.{◌≡◌, ◌++◌, drop, map}
use Rattle.announced_set.proofs.changes.addresses_of.Given as goal

abbrev pub invariant-loop-moved : goal.invariant-loop-moved
invariant-loop-moved l = l.addresses ++ map (λ m. m.address) (drop l.moved-index l.moves) ≡ map (λ m. m.address) l.moves
