-- Which states a core comes to.
use Rattle.std.specs.Prelude.{◌≡◌, ℕ, List, Option}
use Rattle.core_rules.specs.Core.{State}
use Rattle.core_rules.specs.Run.{TranscriptEntry, IsRun, core_after}

-- Some run of a core leads to the state.
pub record IsReached (s : State) : Type 0 where
  pub class : Option (List ℕ)
  pub run : List TranscriptEntry
  pub is : IsRun class run
  pub leads : core_after class run ≡ s
