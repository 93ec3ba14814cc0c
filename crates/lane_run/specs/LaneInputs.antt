-- What the lines of a lane come to: the items before the first line that isn't one, and how the lane ends.
use Rattle.std.specs.Prelude.{◌≡◌, ℕ, Bool, if◌then◌else◌, List, [], ◌∷◌, ◌++◌, map, Option, Some, None, Result, Ok, Err}
use Rattle.kube_model.specs.declared.event.Event.{Event}
use Rattle.kube_model.specs.declared.event.EventFault.{EventFault}
use Rattle.kube_events.specs.Event.{event_of_line}
use Rattle.lane_mail.specs.declared.lane.Lane.{Lane}
use Rattle.lane_mail.specs.declared.item.Item.{Item}
use Rattle.mlb_edge.specs.declared.lines.Line.{Line}
use Rattle.mlb_edge.specs.declared.lines.LineEnd.{LineEnd}
use Rattle.mlb_edge.specs.declared.lines.LineEnd.TheVariants as reader
use Rattle.mlb_edge.specs.InputLines.{Ending, Whole, LongLine, LongInput, input_of}
use Rattle.lane_run.specs.declared.lane_end.LaneEnd.{LaneEnd}
use Rattle.lane_run.specs.declared.lane_end.LaneEnd.TheVariants.{Done, ReadFault, LineLimit, InputLimit, BadLine, NoMemory}

-- the event of a line that came by the lane
abbrev pub item : Lane → ℕ → Event → Item
item lane number event = record { lane = lane; number = number; event = event }

-- the item of a line that is read so: none where it is no event, or one of the other lane alone
abbrev pub item_by : (Lane → Event → Bool) → Lane → ℕ → Result Event EventFault → Option Item
item_by belongs lane number (Err fault) = None
item_by belongs lane number (Ok event) = if belongs lane event then Some (item lane number event) else None

-- the item that a line is in a lane
abbrev pub item_in : (Lane → Event → Bool) → Lane → Line → Option Item
item_in belongs lane line = item_by belongs lane line.number (event_of_line line.bytes)

-- these lines are these items, one for one
abbrev pub AreItems : (Lane → Event → Bool) → Lane → List Line → List Item → Type 0
AreItems belongs lane lines items = map (item_in belongs lane) lines ≡ map (λ item. Some item) items

-- how a lane ends where no more lines can be read
abbrev pub end_at : Ending → LaneEnd
end_at Whole = Done
end_at (LongLine number) = LineLimit number
end_at LongInput = InputLimit

-- how a lane ends where the reader refuses
abbrev pub end_of : LineEnd → LaneEnd
end_of reader.ReadFault = ReadFault
end_of (reader.LineLimit number) = LineLimit number
end_of reader.InputLimit = InputLimit
end_of reader.NoMemory = NoMemory

-- what a lane carries, and how it ends
pub record LaneInput : Type 0 where
  pub items : List Item
  pub end : LaneEnd

-- the items, and then the rest
abbrev pub with_items : List Item → LaneInput → LaneInput
with_items items rest = record { items = items ++ rest.items; end = rest.end }

-- no item, for this reason
abbrev pub no_items : LaneEnd → LaneInput
no_items end = record { items = []; end = end }

-- a line that is this item, or that ends the lane
abbrev pub goes_by : Option Item → Line → LaneInput → LaneInput
goes_by None line rest = no_items (BadLine line.number line.bytes)
goes_by (Some item) line rest = with_items (item ∷ []) rest

-- the items before the first line that isn't one
abbrev pub lane_input_from : (Lane → Event → Bool) → Lane → List Line → Ending → LaneInput
lane_input_from belongs lane [] ending = no_items (end_at ending)
lane_input_from belongs lane (line ∷ lines) ending = goes_by (item_in belongs lane line) line (lane_input_from belongs lane lines ending)

-- what a lane carries of these bytes
abbrev pub lane_input : (Lane → Event → Bool) → Lane → List ℕ → LaneInput
lane_input belongs lane bytes = lane_input_from belongs lane (input_of bytes).lines (input_of bytes).ending

-- this is the lane's input, or that of some lines where the source doesn't tell its bytes
abbrev pub IsInputOf : (Lane → Event → Bool) → Lane → Option (List ℕ) → LaneInput → Type 0
IsInputOf belongs lane None input = (lines : List Line) × (ending : Ending) × (input ≡ lane_input_from belongs lane lines ending)
IsInputOf belongs lane (Some bytes) input = input ≡ lane_input belongs lane bytes
