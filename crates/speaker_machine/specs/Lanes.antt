-- What the items of two lanes are to the speaker: the watched objects, and the received frames.
use Rattle.std.specs.Prelude.{Bool, false, is_none, is_some}
use Rattle.kube_model.specs.declared.event.Event.{Event}
use Rattle.kube_model.specs.declared.status.LaneName.{LaneName}
use Rattle.kube_model.specs.declared.status.LaneName.TheVariants as names
use Rattle.kube_model.specs.declared.status.Status.TheVariants.{Done, BadReply}
use Rattle.lane_drive.specs.LaneRules.{LaneRules}
use Rattle.lane_mail.specs.declared.item.Item.{Item}
use Rattle.lane_mail.specs.declared.lane.Lane.{Lane}
use Rattle.lane_mail.specs.declared.lane.Lane.TheVariants.{First, Second}
use Rattle.line_run.specs.Machine.{Transition, Stops}
use Rattle.speaker_machine.specs.declared.transcript.TranscriptEntry.{TranscriptEntry}
use Rattle.speaker_machine.specs.Transcript.{entry_text}
use Rattle.speaker_machine.specs.Stream.{SpeakerState, frame_in, step_by}

-- whether the event may come by the lane: frames come by the second alone, and all else by the first alone
abbrev pub belongs_to : Lane → Event → Bool
belongs_to First event = is_none (frame_in event)
belongs_to Second event = is_some (frame_in event)

abbrev pub name_of : Lane → LaneName
name_of First = names.Watch
name_of Second = names.Frame

-- what an item is to this state: what its event is
abbrev pub item_step : SpeakerState → Item → Transition SpeakerState TranscriptEntry
item_step s item = step_by s item.event

-- the speaker, as a machine over items; there are no replies, and the input isn't read
abbrev pub lane_rules : LaneRules SpeakerState TranscriptEntry
lane_rules = record {
  take = item_step;
  waits = λ s. false;
  hear = λ s line. Stops (BadReply line.number line.bytes);
  unanswered = λ s. Done;
  hears = false;
  text = entry_text;
  name = name_of;
}
