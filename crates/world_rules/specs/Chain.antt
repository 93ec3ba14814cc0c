-- Runs one after the other: each begins in the store that the one before left, with what was edited and what landed between them.
use Rattle.std.specs.Prelude.{ℕ, Bool, List, [], ◌∷◌, ◌++◌, Option, None, ⊤}
use Rattle.std.specs.List.{AllByRecursion}
use Rattle.kube_model.specs.declared.event.Event.{Event}
use Rattle.kube_model.specs.declared.put.Put.{Put}
use Rattle.status_store.specs.Changes.{StoreValue}
use Rattle.core_laws.specs.Shared.{AllShowTerms}
use Rattle.core_rules.specs.Run.{TranscriptEntry, put_out, IsRun}
use Rattle.world_rules.specs.Explaining.{Explains, IsExplained}
use Rattle.world_rules.specs.Good.{IsGoodStore}
use Rattle.world_rules.specs.Laws.{AreSafeAlong}
use Rattle.world_rules.specs.Moves.{Move, Sets, Deletes, Tells, Takes, Turns, Stops, Starts, ConfigExpires, ServicesExpire, EndsLater, Lands}
use Rattle.world_rules.specs.Moves.{AreMoves, after_move, after_moves, run_along, begun, puts_in, under_way}
use Rattle.world_rules.specs.World.{WorldValue, reached}

-- One run of a controller, and what is done to the store until the next one begins.
pub record Stage : Type 0 where
  pub class : Option (List ℕ)  -- the class that its words name
  pub list : List Event  -- the list of the services that it is going to be shown
  pub moves : List Move  -- what happens while it runs
  pub run : List TranscriptEntry  -- what it took, decided and heard
  pub applied : Bool  -- whether a last put that has no reply had reached the store when the controller stopped
  pub between : List Move  -- what happens then, until the next one is started

-- the controller is down: others edit the store, and a put that is under way lands
abbrev pub IsBetween : Move → Type 0
IsBetween (Sets object holding) = ⊤
IsBetween (Deletes kind key) = ⊤
IsBetween (Tells event) = ⊥
IsBetween Takes = ⊥
IsBetween (Turns outcome) = ⊥
IsBetween (Stops applied) = ⊥
IsBetween (Starts list) = ⊥
IsBetween ConfigExpires = ⊥
IsBetween (ServicesExpire list) = ⊥
IsBetween (EndsLater before event behind) = ⊥
IsBetween (Lands put) = ⊤

-- the puts that are under way after these moves
abbrev pub late_along : List Move → WorldValue → List Put → List Put
late_along [] w late = late
late_along (move ∷ moves) w late = late_along moves (after_move move w) (under_way move w late)

-- the world of the stage when its run ends, where it began in this store
abbrev pub ended_in : Stage → StoreValue → WorldValue
ended_in stage store = after_moves stage.moves (begun stage.class store stage.list)

-- the controller is stopped: a last put that has no reply has reached the store or not
abbrev pub left_by : Stage → StoreValue → WorldValue
left_by stage store = record {
  class = stage.class;
  store = reached (put_out stage.run) stage.applied (ended_in stage store).store;
  config_lane = [];
  service_lane = [];
  core = None;
}

-- and may still be under way, as those whose reply was lost
abbrev pub late_left : Stage → StoreValue → List Put
late_left stage store = puts_in (put_out stage.run) ++ late_along stage.moves (begun stage.class store stage.list) []

-- the store in which the next run begins
abbrev pub store_behind : Stage → StoreValue → StoreValue
store_behind stage store = (after_moves stage.between (left_by stage store)).store

-- The run is one of a core, and its world explains it, where the store is good; what is done after it, can be done.
pub record IsStage (store : StoreValue) (stage : Stage) : Type 0 where
  pub is_run : IsRun stage.class stage.run
  pub typed : AllShowTerms stage.run
  pub explained : IsGoodStore store → Explains stage.class store stage.list stage.moves stage.run
  pub down : AllByRecursion IsBetween stage.between
  pub may : AreMoves stage.between (left_by stage store) (late_left stage store)

-- each run begins in the store that the one before left
abbrev pub AreChained : StoreValue → List Stage → Type 0
AreChained store [] = ⊤
AreChained store (stage ∷ more) = IsStage store stage × AreChained (store_behind stage store) more

-- The store is safe before and after each move of the run, where its last put reached it and where it didn't, and after each edit
-- and each late landing until the next run.
pub record IsSafeStage (store : StoreValue) (stage : Stage) : Type 0 where
  pub run : IsExplained stage.class (ended_in stage store) (run_along stage.moves (begun stage.class store stage.list) []) stage.run
  pub along : AreSafeAlong stage.moves (begun stage.class store stage.list)
  pub behind : AreSafeAlong stage.between (left_by stage store)

-- so it is through all of them, and the store that is left is good
abbrev pub AreSafeStages : StoreValue → List Stage → Type 0
AreSafeStages store [] = IsGoodStore store
AreSafeStages store (stage ∷ more) = IsSafeStage store stage × AreSafeStages (store_behind stage store) more

-- so it is of any runs one after the other, the first of which began in a good store
abbrev pub ChainsAreSafe : Type 0
ChainsAreSafe = (store : StoreValue) (stages : List Stage) → IsGoodStore store → AreChained store stages → AreSafeStages store stages
