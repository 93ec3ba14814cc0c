-- What a run of two lanes comes to.
use Rattle.std.specs.Prelude.{ℕ, Bool, List, Option}
use Rattle.kube_model.specs.declared.event.Event.{Event}
use Rattle.kube_model.specs.declared.status.Status.{Status}
use Rattle.lane_mail.specs.declared.lane.Lane.{Lane}
use Rattle.lane_mail.specs.declared.lane.Lane.TheVariants.{First, Second}
use Rattle.lane_mail.specs.declared.item.Item.{Item}
use Rattle.lane_mail.specs.Lanes.{items_of}
use Rattle.lane_mail.specs.Merges.{IsMerge}
use Rattle.lane_run.specs.declared.lane_end.LaneEnd.{LaneEnd}
use Rattle.lane_run.specs.declared.lane_run.LaneRun.{LaneRun}
use Rattle.lane_run.specs.Reconciled.{Drove}
use Rattle.lane_run.specs.Outside.{SourceState, Outside}
use Rattle.lane_run.specs.Turned.{BeginsTurned, EndedTurned}
use Rattle.lane_run.specs.Watched.{Ended}

-- These are all items that both lanes sent, put together, and each lane sent its own and ended as it may.
pub record BothEnded (FirstEnds SecondEnds : List Item → LaneEnd → Type 0) (sent : List Item) (end end' : LaneEnd) : Type 0 where
  pub first_ended : FirstEnds (items_of First sent) end
  pub second_ended : SecondEnds (items_of Second sent) end'
  pub merge : IsMerge sent (items_of First sent) (items_of Second sent)

-- both lanes ended so, and these are all items that they sent, put together
abbrev pub LanesEnded : (Lane → Event → Bool) → (first first' second second' : SourceState) → (sent : List Item) (end end' : LaneEnd) → Type 0
LanesEnded belongs first first' second second' = BothEnded (Ended belongs First first first') (Ended belongs Second second second')

-- All that both lanes sent was taken, and the items drove the reconciler up to the first that was refused.
pub record RanBy {S : Type 0} (Sent : List Item → LaneEnd → LaneEnd → Type 0) (Drives : S → S → Item → Outside → Outside → Type 0) (Refuses : Status → S → Item
    → Outside → Outside → Type 0) (s t : S) (before after : Outside) (run : LaneRun) : Type 0 where
  pub taken : List Item
  pub lanes : Sent taken run.first run.second
  pub drove : Drove Drives Refuses taken s t before after run.outcome

-- it is so of two lanes that send their events as they are
abbrev pub Ran : {S : Type 0} → (Lane → Event → Bool) → (Drives : S → S → Item → Outside → Outside → Type 0) (Refuses : Status → S → Item → Outside → Outside
    → Type 0) (first first' second second' : SourceState) (s t : S) (before after : Outside) → LaneRun → Type 0
Ran belongs Drives Refuses first first' second second' = RanBy (LanesEnded belongs first first' second second') Drives Refuses

module _ {U V : Type 0} (TurnsFirst : U → U → Event → Event → Type 0) (TurnsSecond : V → V → Event → Event → Type 0) (belongs : Lane → Event → Bool) where
  -- both lanes ended so, and these are all items that were sent for theirs, put together
  abbrev pub LanesTurned : (first first' second second' : SourceState) (u u' : U) (v v' : V) (sent : List Item) (end end' : LaneEnd) → Type 0
  LanesTurned first first' second second' u u' v v' =
      BothEnded (EndedTurned TurnsFirst belongs First first first' u u') (EndedTurned TurnsSecond belongs Second second second' v v')

  -- For a beginning of what each lane carries these items were sent, and the states after them lead on to those that are left in the end.
  pub record TurnedBeginnings (first second : Option (List ℕ)) (u u' : U) (v v' : V) (sent : List Item) : Type 0 where
    pub firsts : BeginsTurned TurnsFirst belongs First first u u' (items_of First sent)
    pub seconds : BeginsTurned TurnsSecond belongs Second second v v' (items_of Second sent)
