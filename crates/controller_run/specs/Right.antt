-- What is right of the run over some lines.
use Rattle.std.specs.Prelude.{◌≡◌, ℕ, List, ◌++◌, Option}
use Rattle.core_drive.specs.Drive.{TranscriptEntry}
use Rattle.core_drive.specs.Sound.{IsSound}
use Rattle.core_rules.specs.Core.{State, fresh}
use Rattle.line_run.specs.Run.{AreTaken, run_from}
use Rattle.line_run.specs.RunOutput.{WritesOnly}
use Rattle.mlb_edge.specs.declared.lines.Line.{Line}
use Rattle.mlb_edge.specs.InputLines.{Whole}
use Rattle.controller_run.specs.SoFar.{IsRightSoFar}
use Rattle.controller_run.specs.Sound.{IsSafeThroughout, SettlesThroughout, KeepsThroughout}
use Rattle.controller_run.specs.Stream.{controller_rules}

-- The transcript of the run of these lines is sound, and safe in every world that explains it, which settles when it is left alone, and along it addresses
-- stay; and so it is, after each beginning of them that is taken, with what was told so far, which leaves nothing waiting where no put is in flight.
pub record IsRightRun (class : Option (List ℕ)) (lines : List Line) : Type 0 where
  pub sound : IsSound class (run_from controller_rules lines Whole (fresh class)).entries
  pub safe : IsSafeThroughout class (run_from controller_rules lines Whole (fresh class)).entries
  pub settles : SettlesThroughout class (run_from controller_rules lines Whole (fresh class)).entries
  pub stays : KeepsThroughout class (run_from controller_rules lines Whole (fresh class)).entries
  pub so_far : (earlier later : List Line) (s : State) (told : List TranscriptEntry) → lines ≡ earlier ++ later
      → AreTaken controller_rules earlier (fresh class) s told → IsRightSoFar class told s

-- A beginning of the text of the input's run was written, or of some lines' run where the source doesn't tell its bytes, and that run is right.
pub record WritesRightly (class left before after : Option (List ℕ)) : Type 0 where
  pub written : WritesOnly controller_rules (fresh class) left before after
  pub right : IsRightRun class written.lines
