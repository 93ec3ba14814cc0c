-- What two lanes send: the events of their lines as they are, or what these are turned into.
use Rattle.std.specs.Prelude.{ℕ, Bool, List, Option}
use Rattle.kube_model.specs.declared.event.Event.{Event}
use Rattle.lane_mail.specs.declared.lane.Lane.{Lane}
use Rattle.lane_mail.specs.declared.lane.Lane.TheVariants.{First, Second}
use Rattle.lane_mail.specs.declared.item.Item.{Item}
use Rattle.lane_run.specs.declared.lane_end.LaneEnd.{LaneEnd}
use Rattle.lane_run.specs.declared.lane_end.LaneEnd.TheVariants.{Done}
use Rattle.lane_run.specs.Ran.{LanesTurned, TurnedBeginnings}
use Rattle.lane_run.specs.Turned.{StopsTurned}
use Rattle.lane_run.specs.Outside.{SourceState}

-- What it is that two lanes send.
pub record Sending : Type 1 where
  -- both lanes ended so, and these are all items that they sent, put together
  pub Ended : (first first' second second' : SourceState) → (sent : List Item) (end end' : LaneEnd) → Type 0
  -- of each lane these items are a beginning of what it may send, and lead on to what it comes to in the end
  pub Begins : (first second : Option (List ℕ)) → List Item → Type 0
  -- just these items are sent for all that the first lane carries, and for all that the second does, and each ends with its input
  pub Firsts : Option (List ℕ) → List Item → Type 0
  pub Seconds : Option (List ℕ) → List Item → Type 0

-- each lane sends what its events are turned into, which leads from the first of its states to the other
abbrev pub turned : {U V : Type 0} → (U → U → Event → Event → Type 0) → (V → V → Event → Event → Type 0) → (Lane → Event → Bool) → (u u' : U) (v v' : V)
    → Sending
turned TurnsFirst TurnsSecond belongs u u' v v' = record {
  Ended = λ first first' second second'. LanesTurned TurnsFirst TurnsSecond belongs first first' second second' u u' v v';
  Begins = λ first second. TurnedBeginnings TurnsFirst TurnsSecond belongs first second u u' v v';
  Firsts = λ first items. StopsTurned TurnsFirst belongs First first u u' items Done;
  Seconds = λ second items. StopsTurned TurnsSecond belongs Second second v v' items Done;
}
