-- What a line is to a controller behind a fence: an event, where one may come, or what the fence is told.
use Rattle.std.specs.Prelude.{◌≡◌, ℕ, ◌+◌, ◌&&◌, Bool, true, false, not, if◌then◌else◌, List, [], Option, Some, None, Result, Ok, Err}
use Rattle.std.specs.Prelude.{is_err, is_some, ⊤}
use Rattle.kube_model.specs.declared.event.Event.{Event}
use Rattle.kube_model.specs.declared.event.EventFault.{EventFault}
use Rattle.kube_model.specs.declared.put.Put.{Put}
use Rattle.kube_model.specs.declared.status.LaneName.TheVariants as lanes
use Rattle.kube_model.specs.declared.status.What.TheVariants as whats
use Rattle.kube_model.specs.declared.status.Status.{Status}
use Rattle.kube_model.specs.declared.status.Status.TheVariants.{Done, Usage, OpenFault, ReadFault}
use Rattle.kube_model.specs.declared.status.Status.TheVariants.{WriteFault, BadLine, BadReply}
use Rattle.kube_model.specs.declared.status.Status.TheVariants.{NoReply, Limit, NoMemory}
use Rattle.kube_events.specs.Event.{event_of_line}
use Rattle.core_drive.specs.Drive.{Took, ListExpired, Turned, Heard, TranscriptEntry as CoreEntry}
use Rattle.core_rules.specs.declared.turn.Turn.{Turn}
use Rattle.core_rules.specs.declared.turn.Turn.TheVariants.{Idle, NoPut, Wants}
use Rattle.core_rules.specs.Take.{limits}
use Rattle.fence_lines.specs.Lines.{input_of_line, output_text}
use Rattle.line_run.specs.Machine.{Transition, Goes, Stops, Rules}
use Rattle.line_run.specs.Text.{line_of}
use Rattle.mlb_edge.specs.declared.lines.Line.{Line}
use Rattle.object_cache.specs.Limits.{most_services}
use Rattle.program_lines.specs.Lines.{note_text}
use Rattle.put_fence.specs.declared.answer.Input.{Input}
use Rattle.put_fence.specs.declared.output.Taken.{Taken}
use Rattle.put_fence.specs.declared.stage.Stage.{Stage}
use Rattle.put_fence.specs.declared.stage.Stage.TheVariants as stages
use Rattle.put_fence.specs.Fences.{started}
use Rattle.controller_run.specs.Output.{reason_line}
use Rattle.controller_run.specs.Stream.{IsLimit, end_of}
use Rattle.fenced_run.specs.Drive.{Driven, FencedState, TranscriptEntry, OfCore, Told, taking, told}

-- ---- what is written

-- the text on a line of its own, if there is one
abbrev pub line_if : Option (List ℕ) → List ℕ
line_if None = []
line_if (Some text) = line_of text

-- the request that a fence makes, or what became of the Lease
abbrev pub given_text : Taken → List ℕ
given_text t = line_if (output_text t.output t.fence)

-- why a service has no address is told; of a put the fence is told, and no line is written
abbrev pub turn_text : Turn → List ℕ
turn_text Idle = []
turn_text (NoPut key pending) = reason_line key pending
turn_text (Wants put pending) = reason_line put.key pending

abbrev pub core_text : CoreEntry → List ℕ
core_text (Took event note) = note_text note
core_text (ListExpired group) = []
core_text (Turned turn) = turn_text turn
core_text (Heard reply) = []

abbrev pub entry_text : TranscriptEntry → List ℕ
entry_text (OfCore entry) = core_text entry
entry_text (Told input t) = given_text t

-- the request with which a fence begins
abbrev pub first_text : List ℕ → List ℕ
first_text name = given_text (started name)

-- ---- what a line is

abbrev pub goes_by : Driven → Transition FencedState TranscriptEntry
goes_by driven = Goes driven.state driven.entries

-- a line that is nothing that is awaited: where a put is in flight it is no answer
abbrev pub refused : Option Put → Line → Status
refused None line = BadLine lanes.Input line.number line.bytes
refused (Some put) line = BadReply line.number line.bytes

-- the program is up, and awaits no reply
abbrev pub is_free : Stage → Bool
is_free (stages.Waiting call) = false
is_free (stages.Fencing call next) = false
is_free stages.Listing = false
is_free (stages.Free call) = true
is_free (stages.Naming put call) = false
is_free (stages.Sent put) = false
is_free (stages.Checking put call tries) = false
is_free (stages.Chasing call None) = true
is_free (stages.Chasing call (Some put)) = false
is_free stages.Relisting = false
is_free stages.Lost = false

-- an event may come: the services were listed, and no put is in flight
abbrev pub takes_events : FencedState → Bool
takes_events s = is_free s.fence.stage && not (is_some s.core.out)

-- it tells the fence nothing, or the fence is told
abbrev pub told_step : FencedState → Line → Result Input EventFault
    → Transition FencedState TranscriptEntry
told_step s line (Err fault) = Stops (refused s.core.out line)
told_step s line (Ok input) = goes_by (told input s)

-- with the event one service more would be held than may be, or it arrives
abbrev pub arrival : FencedState → Event → Transition FencedState TranscriptEntry
arrival s event =
    if limits s.core event then Stops (Limit whats.Services (most_services + 1))
    else goes_by (taking event s)

-- what is no event may tell the fence something
abbrev pub event_step : FencedState → Line → Result Event EventFault
    → Transition FencedState TranscriptEntry
event_step s line (Err fault) = told_step s line (input_of_line line.bytes)
event_step s line (Ok event) = arrival s event

abbrev pub line_step : FencedState → Line → Transition FencedState TranscriptEntry
line_step s line =
    if takes_events s then event_step s line (event_of_line line.bytes)
    else told_step s line (input_of_line line.bytes)

-- the input ends: the run is done where the Lease was lost, or no put is in flight
abbrev pub end_where : Stage → Option Put → Status
end_where (stages.Waiting call) out = end_of out
end_where (stages.Fencing call next) out = end_of out
end_where stages.Listing out = end_of out
end_where (stages.Free call) out = end_of out
end_where (stages.Naming put call) out = end_of out
end_where (stages.Sent put) out = end_of out
end_where (stages.Checking put call tries) out = end_of out
end_where (stages.Chasing call put) out = end_of out
end_where stages.Relisting out = end_of out
end_where stages.Lost out = Done

-- the controller behind its fence, as a machine over lines
abbrev pub fenced_rules : Rules FencedState TranscriptEntry
fenced_rules = record {
  step = line_step;
  end = λ s. end_where s.fence.stage s.core.out;
  text = entry_text;
}

-- What is so where a run stops with this status: a line that is refused tells the fence nothing; or
-- one service more would be held than may be.
abbrev pub IsCause : Status → Type 0
IsCause Done = ⊤
IsCause Usage = ⊥
IsCause (OpenFault lane) = ⊥
IsCause (ReadFault lane) = ⊥
IsCause WriteFault = ⊥
IsCause (BadLine lane number bytes) = is_err (input_of_line bytes) ≡ true
IsCause (BadReply number bytes) = is_err (input_of_line bytes) ≡ true
IsCause (NoReply put) = ⊤
IsCause (Limit what count) = IsLimit what count
IsCause NoMemory = ⊥
