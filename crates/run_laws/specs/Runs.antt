-- Runs one after the other: what is told of any lines that a controller takes, or of the events of two lanes.
use Rattle.std.specs.Prelude.{◌≡◌, ◌⊎◌, ℕ, List, [], ◌∷◌, ◌++◌, Option, ⊤}
use Rattle.std.specs.List.{AllByRecursion}
use Rattle.lane_drive.specs.Drive.{Told, AreTaken as AreItemsTaken, entries_of}
use Rattle.lane_drive.specs.Stops.{AreBeginnings}
use Rattle.lane_mail.specs.declared.item.Item.{Item}
use Rattle.mlb_edge.specs.declared.lines.Line.{Line}
use Rattle.line_run.specs.Run.{AreTaken}
use Rattle.status_store.specs.Changes.{StoreValue}
use Rattle.core_rules.specs.Core.{State, fresh}
use Rattle.core_rules.specs.Run.{TranscriptEntry as CoreEntry}
use Rattle.core_drive.specs.Drive.{TranscriptEntry, behind}
use Rattle.world_rules.specs.Chain.{Stage, IsBetween, left_by, late_left, store_behind, AreSafeStages}
use Rattle.world_rules.specs.Explaining.{Explains}
use Rattle.world_rules.specs.Good.{IsGoodStore}
use Rattle.world_rules.specs.Moves.{AreMoves}
use Rattle.controller_run.specs.Lanes.{belongs_to, lane_rules}
use Rattle.controller_run.specs.Stream.{controller_rules}

-- the run is what was told up to some entry
pub record IsBeginning (told : List TranscriptEntry) (run : List CoreEntry) : Type 0 where
  pub first : List TranscriptEntry
  pub later : List TranscriptEntry
  pub up_to : told ≡ first ++ later
  pub is : run ≡ behind first []

-- The run is what is told of some lines that a controller of the class takes, from the first on, up to some entry.
pub record IsOfLines (class : Option (List ℕ)) (run : List CoreEntry) : Type 0 where
  pub lines : List Line
  pub state : State
  pub told : List TranscriptEntry
  pub taken : AreTaken controller_rules lines (fresh class) state told
  pub begins : IsBeginning told run

-- The run is what is told of the first events of two lanes, in some order, with some lines as the replies, up to some entry.
pub record IsOfLanes (class : Option (List ℕ)) (run : List CoreEntry) : Type 0 where
  pub first : Option (List ℕ)
  pub second : Option (List ℕ)
  pub items : List Item
  pub sent : AreBeginnings belongs_to first second items
  pub replies : List Line
  pub state : State
  pub told : List (Told TranscriptEntry)
  pub taken : AreItemsTaken lane_rules items replies (fresh class) state told
  pub begins : IsBeginning (entries_of told) run

-- Its world explains it, where the store is good; and what is done after it, can be done.
pub record IsInWorld (store : StoreValue) (stage : Stage) : Type 0 where
  pub explained : IsGoodStore store → Explains stage.class store stage.list stage.moves stage.run
  pub down : AllByRecursion IsBetween stage.between
  pub may : AreMoves stage.between (left_by stage store) (late_left stage store)

-- each run is one of lines or of lanes, and begins in the store that the one before left
abbrev pub AreRuns : StoreValue → List Stage → Type 0
AreRuns store [] = ⊤
AreRuns store (stage ∷ more) =
    (IsOfLines stage.class stage.run ⊎ IsOfLanes stage.class stage.run) × IsInWorld store stage × AreRuns (store_behind stage store) more

abbrev pub ChainedRunsAreSafe : Type 0
ChainedRunsAreSafe = (store : StoreValue) (stages : List Stage) → IsGoodStore store → AreRuns store stages → AreSafeStages store stages
