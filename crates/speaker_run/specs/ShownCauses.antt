-- Why a run of the speaker stops whose responder answers the frames.
use Rattle.std.proofs.Common.{◌≡◌, inl, inr, Bool, true, false, if◌then◌else◌, List, length, Option, Some, None, sym, ap}
use Rattle.std.specs.Prelude.{nat_le}
use Rattle.std.proofs.lemmas.Bool.{true≢false}
use Rattle.kube_model.specs.declared.event.Event.{Event}
use Rattle.kube_model.specs.declared.status.Status.{Status}
use Rattle.kube_model.specs.declared.status.Status.TheVariants.{NoMemory}
use Rattle.lane_drive.specs.LaneRules.{IsItemLimit}
use Rattle.lane_mail.specs.declared.item.Item.{Item}
use Rattle.line_run.specs.Machine.{Transition, Goes, Stops}
use Rattle.speaker_machine.specs.declared.transcript.TranscriptEntry.{TranscriptEntry}
use Rattle.speaker_machine.specs.Causes.{item_causes}
use Rattle.speaker_machine.specs.Stream.{SpeakerState, Received, frame_in, step_by}
use Rattle.speaker_run.specs.Responding.{ShownState, ShownEntry, published_step, seen_in, shown_step, shown_step_at, shown_rules, told_answer}

-- where the event is published and the run stops at it, it stops so in one stream
pub stops_as : (s : ShownState) (event : Event) (status : Status) (step : Transition SpeakerState TranscriptEntry) → published_step s event step ≡ Stops status
    → step ≡ Stops status
stops_as s event status (Goes speaker entries) e = absurd (cc)
stops_as s event status (Stops other) e = let same : other ≡ status = cc in ap (λ (x : Status). Stops x) same

-- where a run stops at an answer memory is wanting
pub answer_stops : (few : Bool) (s : ShownState) (entries : List ShownEntry) (status : Status) → (if few then Goes s entries else Stops NoMemory) ≡ Stops status
    → status ≡ NoMemory
answer_stops true s entries status e = absurd (cc)
answer_stops false s entries status e = cc

stops_at : (frame : Option Received) (s : ShownState) (item : Item) (status : Status) → shown_step_at frame s item.event ≡ Stops status
    → IsItemLimit status
stops_at None s item status e = inl (item_causes s.speaker item status (stops_as s item.event status (step_by s.speaker item.event) e))
stops_at (Some answered) s item status e =
    inr (answer_stops (nat_le (seen_in answered.frame) (length s.board.published)) s (told_answer s.speaker answered) status e)

-- with the item that a run stops at more would be held than may be, or memory is wanting
pub shown_causes : (s : ShownState) (item : Item) (status : Status) → shown_step s item ≡ Stops status → IsItemLimit status
shown_causes s item status e = stops_at (frame_in item.event) s item status e

-- no reply is awaited
pub shown_awaits_none : {T : Type 0} (s : ShownState) → shown_rules.waits s ≡ true → T
shown_awaits_none s waits = absurd (true≢false (sym waits))
