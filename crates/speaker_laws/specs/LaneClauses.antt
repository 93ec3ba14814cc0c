-- What holds of each run over two lanes that words begin.
use Rattle.std.specs.Prelude.{List, String}
use Rattle.lane_drive.specs.Drive.{Told, entries_of}
use Rattle.lane_mail.specs.declared.item.Item.{Item}
use Rattle.line_run.specs.Run.{AreTaken}
use Rattle.mlb_edge.specs.declared.lines.Line.{Line}
use Rattle.speaker_machine.specs.declared.transcript.TranscriptEntry.{TranscriptEntry}
use Rattle.speaker_machine.specs.Stream.{SpeakerState, speaker_rules}
use Rattle.speaker_laws.specs.Clauses.{begun_by}
use Rattle.speaker_laws.specs.LaneLaws.{HaveEvents, TakesItems}
use Rattle.speaker_laws.specs.Right.{IsRightRun}

-- There are lines with the events of these items, one for each, that are taken so in one stream, and their run is right.
pub record AreRightAsLines {Z : Type 0} (words : List (String Z)) (items : List Item) (t : SpeakerState) (told : List (Told TranscriptEntry)) : Type 0 where
  pub lines : List Line
  pub events : HaveEvents lines items
  pub taken : AreTaken speaker_rules lines (begun_by words) t (entries_of told)
  pub right : IsRightRun words lines

-- so it is whatever items are taken
abbrev pub LanesAreRight : {Z : Type 0} → List (String Z) → Type 0
LanesAreRight words = (items : List Item) (t : SpeakerState) (told : List (Told TranscriptEntry)) → TakesItems (begun_by words) items t told
    → AreRightAsLines words items t told
