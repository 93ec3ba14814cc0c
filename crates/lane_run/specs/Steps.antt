-- What one step of a watcher does: a line is read and its event sent, or the lane ends.
use Rattle.std.specs.Prelude.{◌≡◌, ◌⊎◌, ⊤, ℕ, Bool, false, List, [], ◌∷◌, Option, Some, None}
use Rattle.std.specs.Io.KnownBytes.{IsAtEnd}
use Rattle.kube_model.specs.declared.event.Event.{Event}
use Rattle.lane_mail.specs.declared.lane.Lane.{Lane}
use Rattle.lane_mail.specs.declared.item.Item.{Item}
use Rattle.lane_mail.specs.Values.{Sender, sent_more}
use Rattle.mlb_edge.specs.Causes.{Rose}
use Rattle.mlb_edge.specs.declared.lines.Line.{Line}
use Rattle.mlb_edge.specs.InputLines.{Input, Whole, LongLine, LongInput, Follows, EndsAs}
use Rattle.mlb_edge.specs.Rows.{HasNoNewline}
use Rattle.lane_run.specs.declared.lane_end.LaneEnd.{LaneEnd}
use Rattle.lane_run.specs.declared.lane_end.LaneEnd.TheVariants.{Done, ReadFault, LineLimit, InputLimit, BadLine, NoMemory}
use Rattle.lane_run.specs.LaneInputs.{item_in}
use Rattle.lane_run.specs.Turned.{TurnsItem}

-- the line is none that the lane carries, or memory is wanting
abbrev pub IsUnsent : (Lane → Event → Bool) → Lane → Line → LaneEnd → Type 0
IsUnsent belongs lane line end = (end ≡ NoMemory) ⊎ ((item_in belongs lane line ≡ None) × (end ≡ BadLine line.number line.bytes))

-- One line was read, its event was turned, and what it was turned into was sent.
pub record SendsNext {S : Type 0} (Turns : S → S → Event → Event → Type 0) (s t : S) (belongs : Lane → Event → Bool) (lane : Lane) (old new : Sender)
    (now next : Option Input) : Type 0 where
  pub line : Line
  pub item : Item
  pub comes : Follows now (line ∷ []) next
  pub is : item_in belongs lane line ≡ Some item
  pub one : Item
  pub turned : TurnsItem Turns s t item one
  pub sent : new ≡ sent_more old one

-- The next line is none that the lane carries.
pub record IsBad (belongs : Lane → Event → Bool) (lane : Lane) (now next : Option Input) (number : ℕ) (bytes : List ℕ) : Type 0 where
  pub line : Line
  pub comes : Follows now (line ∷ []) next
  pub none : item_in belongs lane line ≡ None
  pub number_is : number ≡ line.number
  pub bytes_are : bytes ≡ line.bytes

-- why the lane ends
abbrev pub EndsAt : (Lane → Event → Bool) → Lane → (now next : Option Input) (held' : List ℕ) (left' : Option (List ℕ)) (faults faults' : ℕ) (unfailing : Bool)
    → LaneEnd → Type 0
EndsAt belongs lane now next held' left' faults faults' unfailing Done = EndsAs now Whole × IsAtEnd left'
EndsAt belongs lane now next held' left' faults faults' unfailing ReadFault = Follows now [] next × HasNoNewline held' × Rose faults faults' × (unfailing ≡ false)
EndsAt belongs lane now next held' left' faults faults' unfailing (LineLimit number) = EndsAs now (LongLine number)
EndsAt belongs lane now next held' left' faults faults' unfailing InputLimit = EndsAs now LongInput
EndsAt belongs lane now next held' left' faults faults' unfailing (BadLine number bytes) = IsBad belongs lane now next number bytes
EndsAt belongs lane now next held' left' faults faults' unfailing NoMemory = ⊤
