use Rattle.world_rules.proofs.Own.{starts_are_own, steps_are_moves, steps_keep_own, stores_have_terms}
use Rattle.world_rules.proofs.Places.{own_ends_once}
use Rattle.world_rules.proofs.laws.steps_are_moves.Goals as goal

pub returns : goal.returns
returns c = record { starts = starts_are_own; terms = stores_have_terms; moves = steps_are_moves; own = steps_keep_own; ends = own_ends_once }
