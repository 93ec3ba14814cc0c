-- Items that are taken are lines that are taken.
use Rattle.std.proofs.Common.{◌≡◌, List, [], ◌∷◌, Result, refl, ap, ◌∙◌}
use Rattle.std.specs.List.{AllByRecursion}
use Rattle.kube_model.specs.declared.event.Event.{Event}
use Rattle.kube_model.specs.declared.event.EventFault.{EventFault}
use Rattle.lane_drive.specs.Drive.{Told, AreTaken as AreItemsTaken, entries_of}
use Rattle.lane_drive.specs.Laws.{IsRead}
use Rattle.lane_drive.proofs.ReadItems.{items_are_read}
use Rattle.lane_mail.specs.declared.item.Item.{Item}
use Rattle.line_run.specs.Run.{AreTaken}
use Rattle.mlb_edge.specs.declared.lines.Line.{Line}
use Rattle.speaker_machine.specs.declared.transcript.TranscriptEntry.{TranscriptEntry}
use Rattle.speaker_machine.specs.Lanes.{belongs_to, item_step, lane_rules}
use Rattle.speaker_machine.specs.Stream.{SpeakerState, line_step, speaker_rules}
use Rattle.speaker_laws.proofs.Quiet.{item_goes}
use Rattle.speaker_laws.specs.Clauses.{begun_by}
use Rattle.speaker_laws.specs.LaneClauses.{LanesAreRight}
use Rattle.speaker_laws.specs.LaneLaws.{HaveEvents, event_in, ItemsAreAsLines}
use Rattle.speaker_laws.proofs.Right.{right_by}
use Rattle.std.specs.Prelude.{String}

abbrev AreRead : List Item → Type 0
AreRead items = AllByRecursion (IsRead belongs_to) items

-- a line that reads as the event of the item
abbrev line_for : (item : Item) → IsRead belongs_to item → Line
line_for item read = record { number = item.number; bytes = read.bytes }

abbrev lines_for : (items : List Item) → AreRead items → List Line
lines_for [] all = []
lines_for (item ∷ items) all = line_for item all.0 ∷ lines_for items all.1

lines_have : (items : List Item) (all : AreRead items) → HaveEvents (lines_for items all) items
lines_have [] all = refl
lines_have (item ∷ items) all = rw all.0.read (ap (λ (events : List (Result Event EventFault)). event_in item ∷ events) (lines_have items all.1))

line_is : (item : Item) (read : IsRead belongs_to item) (s : SpeakerState) → line_step s (line_for item read) ≡ item_step s item
line_is item read s = rw read.read refl

lines_taken : (items : List Item) (all : AreRead items) (replies : List Line) (s t : SpeakerState) (told : List (Told TranscriptEntry))
    → AreItemsTaken lane_rules items replies s t told
    → AreTaken speaker_rules (lines_for items all) s t (entries_of told)
lines_taken [] all replies s t told (none, same, nothing) = (same, ap entries_of nothing)
lines_taken (item ∷ items) all replies s t told (own, behind, next, entries, more, split, taken, others, is) = (
  next,
  entries,
  entries_of more,
  line_is item all.0 s ∙ item_goes lane_rules (λ u. refl) item own s next entries taken,
  lines_taken items all.1 behind next t more others,
  ap entries_of is,
)

module _ (start : SpeakerState) where
  pub items_as_lines : ItemsAreAsLines start
  items_as_lines items t told taken =
      let read = items_are_read belongs_to taken.first taken.second items taken.begin in
      (lines_for items read, lines_have items read, lines_taken items read taken.replies start t told taken.taken)

pub lanes_right : {Z : Type 0} → (words : List (String Z)) → LanesAreRight words
lanes_right words items t told taken =
    let (lines, events, goes) = items_as_lines (begun_by words) items t told taken in
    record { lines = lines; events = events; taken = goes; right = right_by words lines }
