-- When the input may be asked for more, or the next item waited for: all that was taken is answered, with all replies that came. When what comes by the
-- lanes may be dropped: the run has stopped.
use Rattle.std.specs.Prelude.{◌≡◌, ◌⊎◌, ℕ, Bool, true, false, List, [], ◌∷◌, ◌++◌, Option}
use Rattle.kube_model.specs.declared.event.Event.{Event}
use Rattle.kube_model.specs.declared.status.Status.{Status}
use Rattle.lane_mail.specs.declared.item.Item.{Item}
use Rattle.lane_mail.specs.declared.lane.Lane.{Lane}
use Rattle.lane_run.specs.declared.lane_end.LaneEnd.{LaneEnd}
use Rattle.lane_run.specs.Outside.{SourceState, Outside}
use Rattle.lane_run.specs.Waiting.{MayBeAwaited}
use Rattle.line_run.specs.Answered.{MayBeAsked}
use Rattle.mlb_edge.specs.Reading.{Reading}
use Rattle.lane_drive.specs.LaneRules.{LaneRules}
use Rattle.lane_drive.specs.Drive.{Told, Drives}
use Rattle.lane_drive.specs.Hearing.{FailsBehind, FailsItem, HearsSome}
use Rattle.lane_drive.specs.Sending.{Sending}
use Rattle.lane_drive.specs.Stops.{TakesAll, as_they_are}
use Rattle.mlb_edge.specs.InputLines.{HoldsLine}

-- Some replies were heard, and just their text was written. No other line came whole, and one more reply is awaited.
pub record AwaitsMore {S E : Type 0} (rules : LaneRules S E) (s : S) (before now : Outside) : Type 0 where
  pub state : S
  pub hears : HearsSome rules s state before now
  pub none_held : HoldsLine now.reading → ⊥
  pub waits : rules.waits state ≡ true

-- Just these items were taken, and the lines that came as replies to them were heard, and just their text was written. No other line came
-- whole, and a reply is awaited.
pub record AwaitsReply {S E : Type 0} (rules : LaneRules S E) (items : List Item) (s : S) (before now : Outside) : Type 0 where
  pub state : S
  pub told : List (Told E)
  pub drove : Drives rules items s state told before now
  pub none_held : HoldsLine now.reading → ⊥
  pub waits : rules.waits state ≡ true

-- a machine that awaits no reply takes the item, and awaits one after it
abbrev pub AsksFor : {S E : Type 0} → LaneRules S E → (s : S) (item : Item) (before now : Outside) → Type 0
AsksFor rules s item before now = rules.waits s ≡ false → AwaitsReply rules (item ∷ []) s before now

-- Just these items were taken, with the replies to them, and just their text was written. No reply is awaited.
pub record AnswersAll {S E : Type 0} (rules : LaneRules S E) (start : S) (before : Outside) (items : List Item) (written : Option (List ℕ)) : Type 0 where
  pub state : S
  pub told : List (Told E)
  pub now : Outside
  pub drove : Drives rules items start state told before now
  pub quiet : rules.waits state ≡ false
  pub is : written ≡ now.written

-- Just these items were taken, and the machine stopped at the last of them, or at a reply after it. This stands written.
pub record HasStopped {S E : Type 0} (rules : LaneRules S E) (start : S) (before : Outside) (items : List Item) (written : Option (List ℕ)) : Type 0 where
  pub driven : List Item
  pub item : Item
  pub items_are : items ≡ driven ++ item ∷ []
  pub state : S
  pub told : List (Told E)
  pub mid : Outside
  pub drove : Drives rules driven start state told before mid
  pub quiet : rules.waits state ≡ false
  pub status : Status
  pub now : Outside
  pub stops : FailsItem rules status state item mid now ⊎ FailsBehind rules status state item mid now
  pub is : written ≡ now.written

module _ {S E : Type 0} (sending : Sending) (rules : LaneRules S E) (start : S) where
  -- All that both lanes sent was taken, and just its text was written. No other line came whole, and where there are replies it is still to
  -- be seen that the input is at its end. That a lane ended because its reading failed is possible only where its source isn't unfailing.
  pub record LooksBehind (first second : SourceState) (before now : Outside) : Type 0 where
    pub first' : SourceState
    pub second' : SourceState
    pub end : LaneEnd
    pub end' : LaneEnd
    pub all : TakesAll sending rules start first first' second second' before now end end'
    pub none_held : HoldsLine now.reading → ⊥
    pub hears : rules.hears ≡ true

  -- a reply is awaited, or the end of the input
  abbrev pub AsksOf : (first second : SourceState) (before now : Outside) → Type 0
  AsksOf first second before now = ((items : List Item) × AwaitsReply rules items start before now) ⊎ LooksBehind first second before now

-- it is so where each lane sends its events as they are
abbrev pub AsksMore : {S E : Type 0} → (Lane → Event → Bool) → LaneRules S E → S → (first second : SourceState) (before now : Outside) → Type 0
AsksMore belongs = AsksOf (as_they_are belongs)

-- While the machine is driven from this state, more replies may be asked for where it asks for them; the next item may be waited for where all items
-- taken before are answered, and what the lanes still send may be dropped where it has stopped. `seen` is what is outside.
pub record MayDrive {S E I K R : Type 0} (rules : LaneRules S E) (start : S) (Asks : Outside → Outside → Type 0) (name : I → Option (List ℕ))
    (may_read : I → Reading → K → Type 0) (may_wait may_drop : R → List Item → K → Type 0) (written : K → Option (List ℕ)) (seen : I → Reading → K → Outside)
    (rt : R) (input : I) (reader : Reading) (out : K) : Type 0 where
  pub live : MayBeAsked name may_read input (λ i r o. Asks (seen input reader out) (seen i r o))
  pub waits : MayBeAwaited may_wait rt written (AnswersAll rules start (seen input reader out))
  pub drops : MayBeAwaited may_drop rt written (HasStopped rules start (seen input reader out))
