-- What is right of the run over some lines.
use Rattle.std.specs.Prelude.{◌≡◌, ℕ, List, [], map, Option}
use Rattle.line_run.specs.Run.{run_from}
use Rattle.line_run.specs.RunOutput.{WritesOnly}
use Rattle.mlb_edge.specs.declared.lines.Line.{Line}
use Rattle.mlb_edge.specs.InputLines.{Whole}
use Rattle.admit_run.specs.Judged.{AreRight}
use Rattle.admit_run.specs.Stream.{admit_rules, told_of}
use Rattle.admit_run.specs.Words.{AskAnswers, AskExplained, begun_by}

-- Where reviews are answered each has one answer, in their order, up to a line that ends the run, and it is right by what the events before it showed;
-- where it is asked what the lines are read as, each is told of once, in their order.
pub record IsRightRun (words : List (List ℕ)) (lines : List Line) : Type 0 where
  pub judged : AskAnswers words → AreRight lines [] (run_from admit_rules lines Whole (begun_by words)).entries
  pub told : AskExplained words → (run_from admit_rules lines Whole (begun_by words)).entries ≡ map told_of lines

-- A beginning of the text of the input's run was written, or of some lines' run where the source doesn't tell its bytes, and that run is right.
pub record WritesRightly (words : List (List ℕ)) (left before after : Option (List ℕ)) : Type 0 where
  pub written : WritesOnly admit_rules (begun_by words) left before after
  pub right : IsRightRun words written.lines
