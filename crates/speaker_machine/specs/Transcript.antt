-- What is told of an event, and the text of it.
use Rattle.std.specs.Prelude.{ℕ, List, ◌∷◌, ◌++◌, map}
use Rattle.std.specs.List.{flat_map}
use Rattle.ip_ranges.specs.Values.{AddressValue}
use Rattle.kube_lines.specs.OutputLines.{announce_text, withdraw_text, send_text, update_text}
use Rattle.object_cache.specs.declared.change.TakeNote.{TakeNote}
use Rattle.speaker_view.specs.ViewValue.{ViewValue}
use Rattle.announced_set.specs.Changes.{difference}
use Rattle.line_run.specs.Text.{line_of}
use Rattle.program_lines.specs.Lines.{note_text}
use Rattle.speaker_machine.specs.declared.transcript.TranscriptEntry.{TranscriptEntry}
use Rattle.speaker_machine.specs.declared.transcript.TranscriptEntry.TheVariants.{Noted, Withdrawn, Announced, Sent, Updated}
use Rattle.speaker_machine.specs.declared.local_node.LocalNode.{LocalNode}
use Rattle.speaker_machine.specs.Sends.{announcement}

abbrev pub withdrawn : AddressValue → TranscriptEntry
withdrawn address = Withdrawn address

-- what was announced before, and isn't after
abbrev pub withdrawals : List AddressValue → List AddressValue → List TranscriptEntry
withdrawals before after = map withdrawn (difference before after)

-- what is announced after, and wasn't before, with the frames that are sent
abbrev pub announcements : ViewValue → LocalNode → List AddressValue → List AddressValue → List TranscriptEntry
announcements v local before after = flat_map (announcement v local) (difference after before)

-- what became of a configuration, then what isn't announced any more, then what is announced from now on
abbrev pub entries_for : ViewValue → LocalNode → TakeNote → List AddressValue → List AddressValue → List TranscriptEntry
entries_for v local note before after = Noted note ∷ withdrawals before after ++ announcements v local before after

abbrev pub entry_text : TranscriptEntry → List ℕ
entry_text (Noted note) = note_text note
entry_text (Withdrawn address) = line_of (withdraw_text address)
entry_text (Announced address) = line_of (announce_text address)
entry_text (Sent interface frame) = line_of (send_text interface frame)
entry_text (Updated peer message) = line_of (update_text peer message)
