-- Runs of lines and of lanes are runs of a core that was shown terms.
use Rattle.std.proofs.Common.{ℕ, List, [], ◌∷◌, ◌⊎◌, inl, inr, Option, sym, subst}
use Rattle.status_store.specs.Changes.{StoreValue}
use Rattle.core_laws.specs.Shared.{AllShowTerms}
use Rattle.core_rules.specs.Core.{State, fresh}
use Rattle.core_rules.specs.Run.{TranscriptEntry as CoreEntry, IsRun}
use Rattle.core_drive.specs.Drive.{TranscriptEntry, behind}
use Rattle.core_drive.specs.Sound.{LeadsTo}
use Rattle.core_drive.proofs.Goes.{begins_fresh}
use Rattle.world_rules.specs.Chain.{Stage, AreChained, store_behind}
use Rattle.world_rules.proofs.Chains.{chains_are_safe}
use Rattle.controller_run.proofs.Rightful.{beginning_run, beginning_terms}
use Rattle.controller_run.proofs.RightLanes.{lanes_lead}
use Rattle.controller_run.proofs.SoFar.{lines_lead}
use Rattle.lane_drive.specs.Drive.{entries_of}
use Rattle.run_laws.specs.Runs.{IsBeginning, IsOfLines, IsOfLanes, AreRuns, ChainedRunsAreSafe}

-- what was told up to some entry is a run, and was shown terms
begins-run : (class : Option (List ℕ)) (told : List TranscriptEntry) (s : State) (run : List CoreEntry) → LeadsTo class told s → IsBeginning told run
    → IsRun class run × AllShowTerms run
begins-run class told s run led of = (
  subst (IsRun class) (sym of.is)
      (beginning_run class of.first of.later [] (subst (λ (es : List TranscriptEntry). IsRun class (behind es [])) of.up_to led.is)),
  subst AllShowTerms (sym of.is)
      (beginning_terms class of.first of.later [] (subst (λ (es : List TranscriptEntry). AllShowTerms (behind es [])) of.up_to led.typed)),
)

is-run : (class : Option (List ℕ)) (run : List CoreEntry) → IsOfLines class run ⊎ IsOfLanes class run → IsRun class run × AllShowTerms run
is-run class run (inl of) =
    begins-run class of.told of.state run (lines_lead class of.lines (fresh class) of.state of.told [] of.taken (begins_fresh class)) of.begins
is-run class run (inr of) =
    begins-run class (entries_of of.told) of.state run (lanes_lead class of.first of.second of.items of.replies of.state of.told of.sent of.taken) of.begins

chained : (store : StoreValue) (stages : List Stage) → AreRuns store stages → AreChained store stages
chained store [] all = tt
chained store (stage ∷ more) all =
    let is = is-run stage.class stage.run all.0 in (
      record { is_run = is.0; typed = is.1; explained = all.1.explained; down = all.1.down; may = all.1.may },
      chained (store_behind stage store) more all.2,
    )

pub chained_runs_are_safe : ChainedRunsAreSafe
chained_runs_are_safe store stages good all = chains_are_safe store stages good (chained store stages all)
