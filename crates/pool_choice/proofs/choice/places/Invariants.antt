use Rattle.std.proofs.Common.{◌≡◌, ◌++◌, map, drop}
use Rattle.pool_choice.proofs.choice.places.Given as goal

abbrev pub invariant-loop-entry : goal.invariant-loop-entry
invariant-loop-entry l = l.places ++ map (λ e. e.place) (drop l.entry-index l.ranked) ≡ map (λ e. e.place) l.ranked
