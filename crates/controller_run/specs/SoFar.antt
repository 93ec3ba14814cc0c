-- What holds of a run that goes on still, or was stopped from outside, however far it has come.
use Rattle.std.specs.Prelude.{◌≡◌, ℕ, List, Option, None}
use Rattle.core_drive.specs.Drive.{TranscriptEntry}
use Rattle.core_drive.specs.Sound.{IsSound}
use Rattle.core_rules.specs.Core.{State}
use Rattle.controller_run.specs.Sound.{IsSafeThroughout, SettlesThroughout, KeepsThroughout, LeavesNothing}

-- What was told, which led to this core, is sound, and safe in every world that explains it, which settles when it is left alone, and along it addresses stay;
-- and where no put is in flight nothing is left waiting that could be served, and each settled service has its own.
pub record IsRightSoFar (class : Option (List ℕ)) (told : List TranscriptEntry) (s : State) : Type 0 where
  pub sound : IsSound class told
  pub safe : IsSafeThroughout class told
  pub settles : SettlesThroughout class told
  pub stays : KeepsThroughout class told
  pub quiet : s.out ≡ None → LeavesNothing class told
