-- Which worlds explain what a core went through, and what they come to. Runs have the newest entry first.
use Rattle.std.specs.Prelude.{◌≡◌, ℕ, List, [], ◌∷◌, ◌++◌, Option, Some, None, ⊤}
use Rattle.std.specs.List.{AllByRecursion}
use Rattle.kube_model.specs.declared.event.Event.{Event}
use Rattle.kube_model.specs.declared.event.Event.TheVariants.{Changed, Deleted, ListEnd, Expired as WatchesExpired, Members, Frame, Ignored}
use Rattle.kube_model.specs.declared.event.ListGroup.{ListGroup}
use Rattle.kube_model.specs.declared.event.ListGroup.TheVariants as groups
use Rattle.kube_model.specs.declared.put.Put.{Put}
use Rattle.kube_model.specs.declared.reply.PutReply.{PutReply}
use Rattle.kube_model.specs.Kinds.{kind_of, group_of}
use Rattle.status_store.specs.declared.change.Outcome.{Outcome}
use Rattle.status_store.specs.Changes.{StoreValue, after_put}
use Rattle.core_rules.specs.declared.turn.Turn.{Turn}
use Rattle.core_rules.specs.declared.turn.Turn.TheVariants.{Idle, NoPut, Wants}
use Rattle.core_rules.specs.Core.{State}
use Rattle.core_rules.specs.Turn.{core_turn, after_turn, put_in}
use Rattle.core_laws.specs.Shared.{AllShowTerms}
use Rattle.core_rules.specs.Run.{TranscriptEntry, Took, Expired, Turned, Heard, core_after, put_out, IsRun}
use Rattle.world_rules.specs.Good.{IsGoodStore}
use Rattle.world_rules.specs.Moves.{Move, Sets, Deletes, Tells, Takes, Turns, Stops, Starts, ConfigExpires}
use Rattle.world_rules.specs.Moves.{ServicesExpire, EndsLater, Lands, IsListOf, AreMoves, after_moves, run_along, begun}
use Rattle.world_rules.specs.Safe.{IsSafe}
use Rattle.world_rules.specs.Laws.{AreSafeAlong}
use Rattle.world_rules.specs.World.{WorldValue}

-- ---- what happens to a core, apart from what it decides

pub data Act : Type 0 where
  Shown : (event : Event) → Act  -- an event was taken
  ListExpired : (group : ListGroup) → Act  -- the watch of one list has expired
  Decided : Act  -- a turn was made
  Answered : (reply : PutReply) → Act  -- the put that was out was answered

-- an event of a list that a controller is shown
abbrev pub shown_of : ListGroup → Event → List Act
shown_of groups.Config event = Shown event ∷ []
shown_of groups.Service event = Shown event ∷ []
shown_of groups.Endpoint event = []

-- What an event is in a world: endpoint slices, members, frames and what doesn't matter are ignored, since they change nothing in a
-- core; that all watches expire is that one expires after the other. The newest stands first.
abbrev pub acts_of_event : Event → List Act
acts_of_event (Changed version object) = shown_of (group_of (kind_of object)) (Changed version object)
acts_of_event (Deleted kind key) = shown_of (group_of kind) (Deleted kind key)
acts_of_event (ListEnd group) = shown_of group (ListEnd group)
acts_of_event WatchesExpired = ListExpired groups.Service ∷ ListExpired groups.Config ∷ []
acts_of_event (Members names) = []
acts_of_event (Frame interface bytes) = []
acts_of_event Ignored = []

-- idle turns are ignored
abbrev pub acts_of_turn : Turn → List Act
acts_of_turn Idle = []
acts_of_turn (NoPut key pending) = Decided ∷ []
acts_of_turn (Wants put pending) = Decided ∷ []

abbrev pub acts_of_entry : TranscriptEntry → List Act
acts_of_entry (Took event) = acts_of_event event
acts_of_entry (Expired group) = ListExpired group ∷ []
acts_of_entry (Turned turn) = acts_of_turn turn
acts_of_entry (Heard reply) = Answered reply ∷ []

-- what happened in a run, the newest first
abbrev pub acts_of : List TranscriptEntry → List Act
acts_of [] = []
acts_of (entry ∷ earlier) = acts_of_entry entry ++ acts_of earlier

-- the run but for the turn whose put has no reply yet
abbrev pub answered_by : TranscriptEntry → List TranscriptEntry → List TranscriptEntry
answered_by (Took event) earlier = Took event ∷ earlier
answered_by (Expired group) earlier = Expired group ∷ earlier
answered_by (Turned Idle) earlier = Turned Idle ∷ earlier
answered_by (Turned (NoPut key pending)) earlier = Turned (NoPut key pending) ∷ earlier
answered_by (Turned (Wants put pending)) earlier = earlier
answered_by (Heard reply) earlier = Heard reply ∷ earlier

abbrev pub answered : List TranscriptEntry → List TranscriptEntry
answered [] = []
answered (entry ∷ earlier) = answered_by entry earlier

-- the puts of a run, the newest first
abbrev pub puts_of_entry : TranscriptEntry → List Put
puts_of_entry (Took event) = []
puts_of_entry (Expired group) = []
puts_of_entry (Turned Idle) = []
puts_of_entry (Turned (NoPut key pending)) = []
puts_of_entry (Turned (Wants put pending)) = put ∷ []
puts_of_entry (Heard reply) = []

abbrev pub puts_of : List TranscriptEntry → List Put
puts_of [] = []
puts_of (entry ∷ earlier) = puts_of_entry entry ++ puts_of earlier

-- ---- explaining

-- the controller neither stops nor is started
abbrev pub IsRunning : Move → Type 0
IsRunning (Sets object holding) = ⊤
IsRunning (Deletes kind key) = ⊤
IsRunning (Tells event) = ⊤
IsRunning Takes = ⊤
IsRunning (Turns outcome) = ⊤
IsRunning (Stops applied) = ⊥
IsRunning (Starts list) = ⊥
IsRunning ConfigExpires = ⊤
IsRunning (ServicesExpire list) = ⊤
IsRunning (EndsLater before event behind) = ⊤
IsRunning (Lands put) = ⊤

-- A world explains a run of a core: a controller was started over a store that is safe, and was going to be shown a list of its services;
-- moves were made; and what was shown and answered, and how often a turn was made, is what the run has, but for a last put that has no
-- reply.
pub record Explains (class : Option (List ℕ)) (store : StoreValue) (list : List Event) (moves : List Move) (run : List TranscriptEntry) : Type 0 where
  pub good : IsGoodStore store
  pub listed : IsListOf store list
  pub running : AllByRecursion IsRunning moves
  pub may : AreMoves moves (begun class store list) []
  pub same : acts_of (run_along moves (begun class store list) []) ≡ acts_of (answered run)

-- The core is about to want the put, and then it is the run's.
pub record IsAboutToPut (class : Option (List ℕ)) (core : Option State) (put : Put) (run : List TranscriptEntry) : Type 0 where
  pub state : State
  pub up : core ≡ Some state
  pub wants : put_in (core_turn state) ≡ Some put
  pub then : after_turn state ≡ core_after class run

-- The world's core is the run's, and its puts are the run's; its store is safe, and so it stays where the last put, which has no reply
-- yet, reaches it, and where it doesn't.
pub record IsExplained (class : Option (List ℕ)) (w : WorldValue) (along run : List TranscriptEntry) : Type 0 where
  pub puts : puts_of along ≡ puts_of (answered run)
  pub core : put_out run ≡ None → w.core ≡ Some (core_after class run)
  pub about : (put : Put) → put_out run ≡ Some put → IsAboutToPut class w.core put run
  pub safe : IsSafe w.store
  pub last : (put : Put) → put_out run ≡ Some put → (outcome : Outcome) → IsSafe (after_put put outcome w.store)

-- so it is for every world that explains the run, and its store is safe before and after each move
abbrev pub IsSafeInWorlds : Option (List ℕ) → List TranscriptEntry → Type 0
IsSafeInWorlds class run = (store : StoreValue) (list : List Event) (moves : List Move) → Explains class store list moves run
    → IsExplained class (after_moves moves (begun class store list)) (run_along moves (begun class store list) []) run
    × AreSafeAlong moves (begun class store list)

-- and so for every run of a core that was shown terms that there can be
abbrev pub RunsAreSafeInWorlds : Type 0
RunsAreSafeInWorlds = (class : Option (List ℕ)) (run : List TranscriptEntry) → IsRun class run → AllShowTerms run → IsSafeInWorlds class run

-- Whatever moves are made while it runs, a world explains the run of its own controller: so there are such worlds.
abbrev pub WorldsExplainThemselves : Type 0
WorldsExplainThemselves =
    (class : Option (List ℕ)) (store : StoreValue) (list : List Event) (moves : List Move) → IsGoodStore store → IsListOf store list
    → AllByRecursion IsRunning moves → AreMoves moves (begun class store list) []
    → Explains class store list moves (run_along moves (begun class store list) [])
