-- What a lane carries: the items of the lines before the first that is none of its events.
use Rattle.std.specs.Prelude.{◌≡◌, Bool, List, [], ◌∷◌, ◌++◌, None}
use Rattle.kube_model.specs.declared.event.Event.{Event}
use Rattle.lane_mail.specs.declared.lane.Lane.{Lane}
use Rattle.mlb_edge.specs.declared.lines.Line.{Line}
use Rattle.mlb_edge.specs.InputLines.{Ending}
use Rattle.lane_run.specs.declared.lane_end.LaneEnd.{LaneEnd}
use Rattle.lane_run.specs.declared.lane_end.LaneEnd.TheVariants.{BadLine}
use Rattle.lane_run.specs.LaneInputs.{item_in, AreItems, end_at, LaneInput, lane_input_from}

-- the lane ends as its input does, or before the first of these lines, which is none of its events
abbrev pub EndsBefore : (Lane → Event → Bool) → Lane → Ending → List Line → LaneEnd → Type 0
EndsBefore belongs lane ending [] end = end ≡ end_at ending
EndsBefore belongs lane ending (line ∷ lines) end = (item_in belongs lane line ≡ None) × (end ≡ BadLine line.number line.bytes)

-- The items are those of the first lines, one for one, and the lane ends before the others.
pub record StopsFirst (belongs : Lane → Event → Bool) (lane : Lane) (lines : List Line) (ending : Ending) (input : LaneInput) : Type 0 where
  pub taken : List Line
  pub others : List Line
  pub split : lines ≡ taken ++ others
  pub are : AreItems belongs lane taken input.items
  pub ends : EndsBefore belongs lane ending others input.end

-- so it is with each lane, whatever its lines
abbrev pub LanesStopFirst : (Lane → Event → Bool) → Type 0
LanesStopFirst belongs = (lane : Lane) (lines : List Line) (ending : Ending) → StopsFirst belongs lane lines ending (lane_input_from belongs lane lines ending)
