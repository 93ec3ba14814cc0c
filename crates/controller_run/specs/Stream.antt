-- What a line is to the controller: a reply where a put is in flight, and else an event.
use Rattle.std.specs.Prelude.{◌≡◌, ℕ, ◌+◌, if◌then◌else◌, Option, Some, None, Result, Ok, Err, is_err, ⊤, true}
use Rattle.kube_model.specs.declared.event.Event.{Event}
use Rattle.kube_model.specs.declared.event.EventFault.{EventFault}
use Rattle.kube_model.specs.declared.put.Put.{Put}
use Rattle.kube_model.specs.declared.reply.PutReply.{PutReply}
use Rattle.kube_model.specs.declared.status.LaneName.TheVariants as lanes
use Rattle.kube_model.specs.declared.status.What.{What}
use Rattle.kube_model.specs.declared.status.What.TheVariants as whats
use Rattle.kube_model.specs.declared.status.Status.{Status}
use Rattle.kube_model.specs.declared.status.Status.TheVariants.{Done, Usage, OpenFault, ReadFault, WriteFault, BadLine, BadReply, NoReply, Limit, NoMemory}
use Rattle.kube_events.specs.Event.{event_of_line}
use Rattle.kube_lines.specs.ReplyLines.{reply_of}
use Rattle.core_rules.specs.Core.{State}
use Rattle.core_rules.specs.Take.{limits}
use Rattle.core_drive.specs.Drive.{Driven, TranscriptEntry, with_turns, taking, hearing}
use Rattle.line_run.specs.declared.halt.Halt.TheVariants as halts
use Rattle.line_run.specs.declared.halt.Refusal.{Refusal}
use Rattle.line_run.specs.declared.halt.Refusal.TheVariants.{Stopped, Halted}
use Rattle.line_run.specs.Machine.{Transition, Goes, Stops, Rules}
use Rattle.object_cache.specs.Limits.{most_services}
use Rattle.object_cache.specs.declared.change.TakeNote.{TakeNote}
use Rattle.controller_run.specs.Output.{entry_text}
use Rattle.mlb_edge.specs.declared.lines.Line.{Line}
use Rattle.program_lines.specs.Lines.{note_text}

-- what arrived was driven so
abbrev pub goes_by : Driven → Transition State TranscriptEntry
goes_by driven = Goes driven.core driven.entries

-- with the event one service more would be held than may be, or it arrives
abbrev pub arrival : State → Event → Transition State TranscriptEntry
arrival s event = if limits s event then Stops (Limit whats.Services (most_services + 1)) else goes_by (taking s event)

-- What arrived was entered, which led to this core, and this is noted of it; turns follow.
pub record Enters (step : Transition State TranscriptEntry) (note : TakeNote) (t : State) : Type 0 where
  pub entry : TranscriptEntry
  pub steps : step ≡ goes_by (with_turns entry t)
  pub text : entry_text entry ≡ note_text note

-- why what arrives isn't taken: the run stops at it, or memory is wanting
abbrev pub IsUntaken : Refusal → Transition State TranscriptEntry → Type 0
IsUntaken (Stopped status) step = step ≡ Stops status
IsUntaken (Halted halt) step = halt ≡ halts.NoMemory

-- it is no readable event, or the event arrives
abbrev pub event_step : State → Line → Result Event EventFault → Transition State TranscriptEntry
event_step s line (Err fault) = Stops (BadLine lanes.Input line.number line.bytes)
event_step s line (Ok event) = arrival s event

-- it is no reply to the put in flight, or the reply arrives
abbrev pub reply_step : State → Line → Option PutReply → Transition State TranscriptEntry
reply_step s line None = Stops (BadReply line.number line.bytes)
reply_step s line (Some reply) = goes_by (hearing s reply)

abbrev pub step_where : Option Put → State → Line → Transition State TranscriptEntry
step_where None s line = event_step s line (event_of_line line.bytes)
step_where (Some put) s line = reply_step s line (reply_of put line.bytes)

-- what a line is to this core
abbrev pub line_step : State → Line → Transition State TranscriptEntry
line_step s line = step_where s.out s line

-- the input ends: the run is done, or the put in flight has no reply
abbrev pub end_of : Option Put → Status
end_of None = Done
end_of (Some put) = NoReply put

-- the controller, as a machine over lines
abbrev pub controller_rules : Rules State TranscriptEntry
controller_rules = record { step = line_step; end = λ s. end_of s.out; text = entry_text }

-- of what the controller holds, services alone have a limit
abbrev pub IsLimit : What → ℕ → Type 0
IsLimit whats.Line count = ⊥
IsLimit whats.Input count = ⊥
IsLimit whats.Services count = count ≡ most_services + 1
IsLimit whats.Nodes count = ⊥

-- what is so where a run of the controller stops with this status: the line is no event, or no reply to some put; or one service
-- more would be held than may be
abbrev pub IsCause : Status → Type 0
IsCause Done = ⊤
IsCause Usage = ⊥
IsCause (OpenFault lane) = ⊥
IsCause (ReadFault lane) = ⊥
IsCause WriteFault = ⊥
IsCause (BadLine lane number bytes) = is_err (event_of_line bytes) ≡ true
IsCause (BadReply number bytes) = (put : Put) × (reply_of put bytes ≡ None)
IsCause (NoReply put) = ⊤
IsCause (Limit what count) = IsLimit what count
IsCause NoMemory = ⊥
