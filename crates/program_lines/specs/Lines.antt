-- The event of a line, and the text of a note.
use Rattle.std.specs.Prelude.{◌≡◌, ℕ, List, [], Err}
use Rattle.kube_model.specs.declared.event.EventFault.{EventFault}
use Rattle.kube_model.specs.declared.status.LaneName.TheVariants.{Input}
use Rattle.kube_model.specs.declared.status.Status.TheVariants.{BadLine}
use Rattle.kube_events.specs.Event.{event_of_line}
use Rattle.kube_lines.specs.OutputLines.{accepted_text, refused_text}
use Rattle.line_run.specs.declared.halt.Halt.TheVariants.{NoMemory}
use Rattle.line_run.specs.declared.halt.Refusal.{Refusal}
use Rattle.line_run.specs.declared.halt.Refusal.TheVariants.{Stopped, Halted}
use Rattle.line_run.specs.Text.{line_of}
use Rattle.mlb_edge.specs.declared.lines.Line.{Line}
use Rattle.object_cache.specs.declared.change.TakeNote.{TakeNote}
use Rattle.object_cache.specs.declared.change.TakeNote.TheVariants.{Quiet, Accepted, Refused}

-- why the line gives no event: it is none, and the run stops at it, or memory is wanting
abbrev pub IsNoEvent : Refusal → Line → Type 0
IsNoEvent (Stopped status) line = (fault : EventFault) × (event_of_line line.bytes ≡ Err fault) × (status ≡ BadLine Input line.number line.bytes)
IsNoEvent (Halted halt) line = halt ≡ NoMemory

-- what became of a configuration that was compiled is told
abbrev pub note_text : TakeNote → List ℕ
note_text Quiet = []
note_text Accepted = line_of accepted_text
note_text (Refused fault) = line_of (refused_text fault)
