-- What a lane has sent where it ends.
use Rattle.std.specs.Prelude.{◌≡◌, ◌≤◌, ⊤, ℕ, Bool, false, List, ◌++◌, length, Option, Some, None}
use Rattle.std.specs.Io.KnownBytes.{IsAtEnd}
use Rattle.kube_model.specs.declared.event.Event.{Event}
use Rattle.lane_mail.specs.declared.lane.Lane.{Lane}
use Rattle.lane_mail.specs.declared.item.Item.{Item}
use Rattle.mlb_edge.specs.Causes.{Rose}
use Rattle.mlb_edge.specs.declared.lines.Line.{Line}
use Rattle.mlb_edge.specs.InputLines.{input_of, input_from}
use Rattle.mlb_edge.specs.Rows.{HasNoNewline, raw_lines}
use Rattle.lane_run.specs.declared.lane_end.LaneEnd.{LaneEnd}
use Rattle.lane_run.specs.declared.lane_end.LaneEnd.TheVariants.{Done, ReadFault, LineLimit, InputLimit, BadLine, NoMemory}
use Rattle.lane_run.specs.LaneInputs.{AreItems, LaneInput, IsInputOf}
use Rattle.lane_run.specs.Outside.{SourceState}

-- the whole begins with the part
abbrev pub IsBeginning : {T : Type 0} → List T → List T → Type 0
IsBeginning {T} part whole = (rest : List T) × (whole ≡ part ++ rest)

-- a beginning of what the lane carries
pub record Begins (belongs : Lane → Event → Bool) (lane : Lane) (left : Option (List ℕ)) (items : List Item) : Type 0 where
  pub input : LaneInput
  pub is : IsInputOf belongs lane left input
  pub begins : IsBeginning items input.items

-- What was read are whole lines, and then less than a line. These are the items of those lines.
pub record ReadsUpTo (belongs : Lane → Event → Bool) (lane : Lane) (bytes more : List ℕ) (items : List Item) : Type 0 where
  pub front : List ℕ
  pub rest : List ℕ
  pub bytes_are : bytes ≡ (front ++ rest) ++ more
  pub waits : HasNoNewline rest
  pub number : ℕ
  pub done : List Line
  pub lines_are : (input_of bytes).lines ≡ done ++ (input_from (length front) number (raw_lines (rest ++ more))).lines
  pub are : AreItems belongs lane done items

-- the same of the bytes of the source, or the items of some lines where it doesn't tell them
abbrev pub SendsRead : (Lane → Event → Bool) → Lane → Option (List ℕ) → Option (List ℕ) → List Item → Type 0
SendsRead belongs lane None left' items = (lines : List Line) × AreItems belongs lane lines items
SendsRead belongs lane (Some bytes) None items = ⊥
SendsRead belongs lane (Some bytes) (Some more) items = ReadsUpTo belongs lane bytes more items

-- just these are the items that the lane carries, and it ends so
abbrev pub StopsAs : (Lane → Event → Bool) → Lane → Option (List ℕ) → List Item → LaneEnd → Type 0
StopsAs belongs lane left items end = IsInputOf belongs lane left (record { items = items; end = end })

-- what a lane has sent, by the way that it ends; that a read fails is possible only where the source isn't unfailing
abbrev pub Sends : (Lane → Event → Bool) → Lane → (before after : SourceState) → List Item → LaneEnd → Type 0
Sends belongs lane before after items Done = StopsAs belongs lane before.left items Done × IsAtEnd after.left
Sends belongs lane before after items ReadFault = SendsRead belongs lane before.left after.left items × Rose before.faults after.faults × (before.unfailing ≡ false)
Sends belongs lane before after items (LineLimit number) = StopsAs belongs lane before.left items (LineLimit number)
Sends belongs lane before after items InputLimit = StopsAs belongs lane before.left items InputLimit
Sends belongs lane before after items (BadLine number bytes) = StopsAs belongs lane before.left items (BadLine number bytes)
Sends belongs lane before after items NoMemory = ⊤

-- A lane ended so, and these are the items that it sent.
pub record Ended (belongs : Lane → Event → Bool) (lane : Lane) (before after : SourceState) (items : List Item) (end : LaneEnd) : Type 0 where
  pub sends : Sends belongs lane before after items end
  -- however it ends
  pub begins : Begins belongs lane before.left items
  pub later : before.faults ≤ after.faults
  pub named : after.name ≡ before.name
  pub safety : after.unfailing ≡ before.unfailing
