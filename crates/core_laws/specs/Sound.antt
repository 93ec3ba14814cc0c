-- A run is sound: at each moment of it, what was done is right by what the look back shows.
use Rattle.std.specs.Prelude.{◌≡◌, ℕ, false, List, [], ◌∷◌, Option, Some, ⊤}
use Rattle.kube_model.specs.declared.key.Key.{Key}
use Rattle.kube_model.specs.declared.reason.Reason.{Reason}
use Rattle.core_rules.specs.declared.turn.Turn.{Turn}
use Rattle.core_rules.specs.declared.turn.Turn.TheVariants.{Idle, NoPut, Wants}
use Rattle.core_rules.specs.Run.{TranscriptEntry, Took, Expired, Turned, Heard, IsRun, observed}
use Rattle.core_laws.specs.Puts.{IsReadyBy, IsRightPut, IsRightNoPut}
use Rattle.core_laws.specs.QuietShown.{IsQuietAsShown}
use Rattle.core_laws.specs.Shared.{AllShowTerms, AreSharedOrShown, SharesRightly}
use Rattle.core_laws.specs.Telling.{IsRightReason}
use Rattle.core_laws.specs.Waits.{awaits_shown}

-- A key is chosen for: both lists have ended, a configuration is in force, the key doesn't await a newer event, and a reason that is
-- told is right.
pub record IsRightChoice (class : Option (List ℕ)) (key : Key) (pending : Option Reason) (earlier : List TranscriptEntry) : Type 0 where
  pub ready : IsReadyBy (observed earlier)
  pub free : awaits_shown key earlier ≡ false
  pub reason_is : (reason : Reason) → pending ≡ Some reason → IsRightReason class key reason earlier

-- What a turn came to is right. A turn is idle only where nothing is left waiting that could be served. What is put is right, and its addresses are shared by
-- terms alone.
abbrev pub IsRightTurn : Option (List ℕ) → Turn → List TranscriptEntry → Type 0
IsRightTurn class Idle earlier = IsQuietAsShown class earlier
IsRightTurn class (NoPut key pending) earlier = IsRightChoice class key pending earlier × IsRightNoPut class key pending earlier
IsRightTurn class (Wants put pending) earlier =
    IsRightChoice class put.key pending earlier
    × ((right : IsRightPut class put pending earlier) × SharesRightly put right.decision.held.object earlier)

-- what a run was made to do is right; what arrives isn't judged
abbrev pub IsRightEntry : Option (List ℕ) → TranscriptEntry → List TranscriptEntry → Type 0
IsRightEntry class (Took event) earlier = ⊤
IsRightEntry class (Expired group) earlier = ⊤
IsRightEntry class (Turned turn) earlier = IsRightTurn class turn earlier
IsRightEntry class (Heard reply) earlier = ⊤

-- The entry is right by what stands before it, and after it services share their addresses, or the cluster showed it so.
pub record IsRightMoment (class : Option (List ℕ)) (entry : TranscriptEntry) (earlier : List TranscriptEntry) : Type 0 where
  pub right : IsRightEntry class entry earlier
  pub shared : AreSharedOrShown (entry ∷ earlier)

-- each moment of the run is right
abbrev pub IsSoundRun : Option (List ℕ) → List TranscriptEntry → Type 0
IsSoundRun class [] = ⊤
IsSoundRun class (entry ∷ earlier) = IsRightMoment class entry earlier × IsSoundRun class earlier

-- so is every run of the core
abbrev pub RunsAreSound : Type 0
RunsAreSound = (class : Option (List ℕ)) (run : List TranscriptEntry) → IsRun class run → AllShowTerms run → IsSoundRun class run
