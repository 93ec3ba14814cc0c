-- That the transcript of a run is sound, and that a run that is done leaves nothing waiting.
use Rattle.std.specs.Prelude.{◌≡◌, ℕ, List, [], ◌++◌, None, Some, Option}
use Rattle.kube_model.specs.declared.status.Status.TheVariants.{Done}
use Rattle.core_rules.specs.Core.{fresh}
use Rattle.core_laws.specs.QuietShown.{IsQuietAsShown}
use Rattle.core_drive.specs.Drive.{TranscriptEntry, behind}
use Rattle.core_drive.specs.Settled.{AllHaveTheirOwn}
use Rattle.fence_rules.specs.Among.{IsSafeAmongOthers}
use Rattle.settling_laws.specs.Explained.{SettlesInWorlds}
use Rattle.settling_laws.specs.Staying.{KeepsAddresses}
use Rattle.world_rules.specs.Explaining.{IsSafeInWorlds}
use Rattle.mlb_edge.specs.declared.lines.Line.{Line}
use Rattle.mlb_edge.specs.InputLines.{Ending}
use Rattle.line_run.specs.Run.{run_from, run_of}
use Rattle.line_run.specs.RunOutput.{StopsOn}
use Rattle.controller_run.specs.Stream.{controller_rules}

-- In every world that explains a beginning of the transcript the core is the transcript's, and services recorded with one address share it by
-- their marks, before and after each move of the world, and also where a last put that has no reply yet reaches the store. So it is in every
-- cluster of many controllers that explains it as the transcript of one.
abbrev pub IsSafeThroughout : Option (List ℕ) → List TranscriptEntry → Type 0
IsSafeThroughout class transcript =
    (earlier later : List TranscriptEntry) → transcript ≡ earlier ++ later
    → IsSafeInWorlds class (behind earlier []) × IsSafeAmongOthers class (behind earlier [])

-- In every world that explains a beginning of the transcript: left alone, the controller comes to rest, after no more steps than are said beforehand; and
-- once it rests, each stored service has what is chosen for it by what is stored.
abbrev pub SettlesThroughout : Option (List ℕ) → List TranscriptEntry → Type 0
SettlesThroughout class transcript =
    (earlier later : List TranscriptEntry) → transcript ≡ earlier ++ later → SettlesInWorlds class (behind earlier [])

-- Along each beginning of it an address stays: as long as a service for which it was put and stored, or to which it was left, the labels of its namespace and the
-- configuration are as they were shown, and no other service is shown with one of its addresses, no put changes them.
abbrev pub KeepsThroughout : Option (List ℕ) → List TranscriptEntry → Type 0
KeepsThroughout class transcript =
    (earlier later : List TranscriptEntry) → transcript ≡ earlier ++ later → KeepsAddresses class (behind earlier [])

-- Nothing is left waiting that could be served, by what the transcript shows; and each settled service has its own: what serves it, a reason
-- that holds now, or, where it isn't of type LoadBalancer, no record.
pub record LeavesNothing (class : Option (List ℕ)) (transcript : List TranscriptEntry) : Type 0 where
  pub quiet : IsQuietAsShown class (behind transcript [])
  pub settled : AllHaveTheirOwn class (behind transcript [])

-- Where the source doesn't tell its bytes: so it is with some lines whose run is done, and just its text was written.
pub record SomeLeaveNothing (class before after : Option (List ℕ)) : Type 0 where
  pub lines : List Line
  pub ending : Ending
  pub stops : StopsOn controller_rules (run_from controller_rules lines ending (fresh class)) before after Done
  pub quiet : LeavesNothing class (run_from controller_rules lines ending (fresh class)).entries

-- the run of the bytes leaves nothing waiting
abbrev pub EndsQuiet : (class left before after : Option (List ℕ)) → Type 0
EndsQuiet class None before after = SomeLeaveNothing class before after
EndsQuiet class (Some bytes) before after = LeavesNothing class (run_of controller_rules (fresh class) bytes).entries
