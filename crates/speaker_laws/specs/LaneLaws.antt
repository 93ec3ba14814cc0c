-- What is told of the items of two lanes.
use Rattle.std.specs.Prelude.{◌≡◌, ℕ, List, map, Option, Result, Ok}
use Rattle.kube_events.specs.Event.{event_of_line}
use Rattle.kube_model.specs.declared.event.Event.{Event}
use Rattle.kube_model.specs.declared.event.EventFault.{EventFault}
use Rattle.lane_drive.specs.Drive.{Told, AreTaken as AreItemsTaken, entries_of}
use Rattle.lane_drive.specs.Stops.{AreBeginnings}
use Rattle.lane_mail.specs.declared.item.Item.{Item}
use Rattle.line_run.specs.Run.{AreTaken}
use Rattle.mlb_edge.specs.declared.lines.Line.{Line}
use Rattle.speaker_machine.specs.declared.transcript.TranscriptEntry.{TranscriptEntry}
use Rattle.speaker_machine.specs.Lanes.{belongs_to, lane_rules}
use Rattle.speaker_machine.specs.Stream.{SpeakerState, speaker_rules}

-- Items of two lanes are taken one after the other.
pub record TakesItems (start : SpeakerState) (items : List Item) (t : SpeakerState) (told : List (Told TranscriptEntry)) : Type 0 where
  pub first : Option (List ℕ)
  pub second : Option (List ℕ)
  pub begin : AreBeginnings belongs_to first second items
  pub replies : List Line
  pub taken : AreItemsTaken lane_rules items replies start t told

-- an item, read
abbrev pub event_in : Item → Result Event EventFault
event_in item = Ok item.event

-- the lines have the events of the items, one for one
abbrev pub HaveEvents : List Line → List Item → Type 0
HaveEvents lines items = map (λ line. event_of_line line.bytes) lines ≡ map event_in items

-- Whatever items are taken, there are lines with their events, one for each, that are taken so in one stream.
abbrev pub ItemsAreAsLines : SpeakerState → Type 0
ItemsAreAsLines start = (items : List Item) (t : SpeakerState) (told : List (Told TranscriptEntry)) → TakesItems start items t told
    → (lines : List Line) × HaveEvents lines items × AreTaken speaker_rules lines start t (entries_of told)
