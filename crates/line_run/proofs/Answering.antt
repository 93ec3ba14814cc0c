-- All that came whole was answered, where no whole line is held.
use Rattle.std.proofs.Common.{ℕ, List, Option}
use Rattle.mlb_edge.specs.Reading.{Reading}
use Rattle.mlb_edge.specs.InputLines.{HoldsLine, to_come}
use Rattle.line_run.specs.Machine.{Rules}
use Rattle.line_run.specs.Answered.{IsAnswered}
use Rattle.line_run.proofs.Driven.{Driven}

pub answered : {S E : Type 0} (rules : Rules S E) (first s : S) (start : Option (List ℕ)) (reader : Reading) (left before after : Option (List ℕ))
    → Driven rules first start (to_come reader left) s before after → (HoldsLine reader → ⊥)
    → IsAnswered rules first start reader left before after
answered rules first s start reader left before after so_far none_held = record {
  lines = so_far.done;
  come = so_far.follows;
  none_held = none_held;
  state = s;
  entries = so_far.entries;
  taken = so_far.taken;
  wrote = so_far.wrote;
}
