-- What a line is to the speaker: an event, which its view takes.
use Rattle.std.specs.Prelude.{◌≡◌, ℕ, ◌+◌, List, ◌++◌, Option, Some, None, Result, Ok, Err, is_err, ⊤, true}
use Rattle.kube_model.specs.declared.event.Event.{Event}
use Rattle.kube_model.specs.declared.event.Event.TheVariants.{Changed, Deleted, ListEnd, Expired, Members, Frame, Ignored}
use Rattle.kube_model.specs.declared.event.EventFault.{EventFault}
use Rattle.kube_model.specs.declared.object.Kind.{Kind}
use Rattle.kube_model.specs.declared.object.Kind.TheVariants as kinds
use Rattle.kube_model.specs.declared.status.LaneName.TheVariants as lanes
use Rattle.kube_model.specs.declared.status.What.{What}
use Rattle.kube_model.specs.declared.status.What.TheVariants as whats
use Rattle.kube_model.specs.declared.status.Status.{Status}
use Rattle.kube_model.specs.declared.status.Status.TheVariants.{Done, Usage, OpenFault, ReadFault, WriteFault, BadLine, BadReply, NoReply, Limit, NoMemory}
use Rattle.kube_events.specs.Event.{event_of_line}
use Rattle.object_cache.specs.Limits.{most_services, most_nodes}
use Rattle.speaker_view.specs.ViewValue.{ViewValue}
use Rattle.speaker_view.specs.View.{fresh, view_after, note_by, limit_by}
use Rattle.line_run.specs.declared.halt.Halt.TheVariants as halts
use Rattle.line_run.specs.declared.halt.Refusal.{Refusal}
use Rattle.line_run.specs.declared.halt.Refusal.TheVariants.{Stopped, Halted}
use Rattle.line_run.specs.Machine.{Transition, Goes, Stops, Rules}
use Rattle.mlb_edge.specs.declared.lines.Line.{Line}
use Rattle.speaker_words.specs.Words.{Said}
use Rattle.announced_set.specs.Announced.{announced_by}
use Rattle.speaker_machine.specs.declared.transcript.TranscriptEntry.{TranscriptEntry}
use Rattle.speaker_machine.specs.declared.local_node.LocalNode.{LocalNode}
use Rattle.speaker_machine.specs.Transcript.{entries_for, entry_text}
use Rattle.speaker_machine.specs.Sends.{answers}
use Rattle.speaker_machine.specs.LocalNode.{local_node_of}
use Rattle.speaker_machine.specs.Updates.{update_entries}

-- the view, and the node whose announcements are told, with its interfaces and its next hop
pub record SpeakerState : Type 0 where
  pub view : ViewValue
  pub local : LocalNode

abbrev pub state_of : ViewValue → LocalNode → SpeakerState
state_of v local = record { view = v; local = local }

-- nothing was shown yet
abbrev pub first_state : Said → SpeakerState
first_state said = state_of (fresh said.class) (local_node_of said)

abbrev pub state_after : SpeakerState → Event → SpeakerState
state_after s event = state_of (view_after event s.view) s.local

-- a frame that an interface received
pub record Received : Type 0 where
  pub interface : List ℕ
  pub frame : List ℕ

-- the frame of an event
abbrev pub frame_in : Event → Option Received
frame_in (Frame interface bytes) = Some (record { interface = interface; frame = bytes })
frame_in (Changed version object) = None
frame_in (Deleted kind key) = None
frame_in (ListEnd group) = None
frame_in Expired = None
frame_in (Members names) = None
frame_in Ignored = None

-- what is told of what the event changes: its note, what the node announced before it and announces after it, and the routes of the
-- peers
abbrev pub changes_of : SpeakerState → Event → List TranscriptEntry
changes_of s event =
    entries_for (view_after event s.view) s.local (note_by s.view event) (announced_by s.view s.local.node)
    (announced_by (view_after event s.view) s.local.node)
    ++ update_entries s.view (view_after event s.view) s.local

-- a frame changes nothing, and may be answered
abbrev pub entries_at : Option Received → SpeakerState → Event → List TranscriptEntry
entries_at (Some received) s event = answers s.view s.local received.interface received.frame
entries_at None s event = changes_of s event

-- what is told of the event
abbrev pub entries_of : SpeakerState → Event → List TranscriptEntry
entries_of s event = entries_at (frame_in event) s event

-- what there is too much of where a limit of the kind is passed; services and nodes alone have one
abbrev pub what_of : Kind → What
what_of kinds.Service = whats.Services
what_of kinds.Node = whats.Nodes
what_of kinds.Pool = whats.Nodes
what_of kinds.L2 = whats.Nodes
what_of kinds.Bgp = whats.Nodes
what_of kinds.Peer = whats.Nodes
what_of kinds.Community = whats.Nodes
what_of kinds.Namespace = whats.Nodes
what_of kinds.Slice = whats.Nodes

-- with the event more would be held than may be, or it is applied
abbrev pub limit_step : SpeakerState → Event → Option (Kind × ℕ) → Transition SpeakerState TranscriptEntry
limit_step s event None = Goes (state_after s event) (entries_of s event)
limit_step s event (Some p) = Stops (Limit (what_of p.0) p.1)

-- what an event is to this state
abbrev pub step_by : SpeakerState → Event → Transition SpeakerState TranscriptEntry
step_by s event = limit_step s event (limit_by s.view event)

-- why an event isn't applied: the run stops at it, or memory is wanting
abbrev pub IsUnapplied : Refusal → SpeakerState → Event → Type 0
IsUnapplied (Stopped status) s event = step_by s event ≡ Stops status
IsUnapplied (Halted halt) s event = halt ≡ halts.NoMemory

-- it is no readable event, or it is one
abbrev pub event_step : SpeakerState → Line → Result Event EventFault → Transition SpeakerState TranscriptEntry
event_step s line (Err fault) = Stops (BadLine lanes.Input line.number line.bytes)
event_step s line (Ok event) = step_by s event

-- what a line is to this state
abbrev pub line_step : SpeakerState → Line → Transition SpeakerState TranscriptEntry
line_step s line = event_step s line (event_of_line line.bytes)

-- the speaker, as a machine over lines; a run is done where the input ends
abbrev pub speaker_rules : Rules SpeakerState TranscriptEntry
speaker_rules = record { step = line_step; end = λ s. Done; text = entry_text }

-- the first number past a limit of what the speaker holds
abbrev pub IsLimit : What → ℕ → Type 0
IsLimit whats.Line count = ⊥
IsLimit whats.Input count = ⊥
IsLimit whats.Services count = count ≡ most_services + 1
IsLimit whats.Nodes count = count ≡ most_nodes + 1

-- what is so where a run of the speaker stops with this status: the line is no event, or with it more would be held than may be
abbrev pub IsCause : Status → Type 0
IsCause Done = ⊤
IsCause Usage = ⊥
IsCause (OpenFault lane) = ⊥
IsCause (ReadFault lane) = ⊥
IsCause WriteFault = ⊥
IsCause (BadLine lane number bytes) = is_err (event_of_line bytes) ≡ true
IsCause (BadReply number bytes) = ⊥
IsCause (NoReply put) = ⊥
IsCause (Limit what count) = IsLimit what count
IsCause NoMemory = ⊥
