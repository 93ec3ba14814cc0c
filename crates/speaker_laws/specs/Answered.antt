-- For which addresses frames are answered: those that stand announced by what was told.
use Rattle.std.specs.Prelude.{◌≡◌, ◌⊎◌, ℕ, List, Some, Ok}
use Rattle.ip_ranges.specs.Values.{AddressValue}
use Rattle.kube_events.specs.Event.{event_of_line}
use Rattle.kube_model.specs.declared.event.Event.{Event}
use Rattle.line_run.specs.Machine.{Goes}
use Rattle.line_run.specs.Run.{AreTaken}
use Rattle.mlb_base.specs.Items.{IsIn}
use Rattle.mlb_edge.specs.declared.lines.Line.{Line}
use Rattle.neigh_frames.specs.Arp.{address_at}
use Rattle.neigh_frames.specs.Ndp.{ipv6_address}
use Rattle.neigh_frames.specs.Solicitation.{target_of}
use Rattle.speaker_words.specs.Words.{Said}
use Rattle.speaker_machine.specs.declared.transcript.TranscriptEntry.{TranscriptEntry}
use Rattle.speaker_machine.specs.declared.transcript.TranscriptEntry.TheVariants.{Sent}
use Rattle.speaker_machine.specs.Stream.{SpeakerState, Received, first_state, frame_in, line_step, speaker_rules}
use Rattle.speaker_laws.specs.Told.{IsToldOf}

-- an ARP request asks for the IPv4 address at 38, a solicitation for the IPv6 address at 62
abbrev pub AsksFor : List ℕ → AddressValue → Type 0
AsksFor frame a = (a ≡ address_at frame 38) ⊎ (a ≡ ipv6_address (target_of frame))

-- Where the line is a received frame that is answered, the address that it asks for has an announce line by what was told before, and no later withdraw
-- line. So none is answered for an address after its withdraw line, nor ahead of its announce line.
abbrev pub IsForWhatStands : (told : List TranscriptEntry) → Line → (entries : List TranscriptEntry) → Type 0
IsForWhatStands told line entries =
    (event : Event) → event_of_line line.bytes ≡ Ok event → (received : Received) → frame_in event ≡ Some received
    → (name frame : List ℕ) → IsIn entries (Sent name frame) → (a : AddressValue) × AsksFor received.frame a × IsToldOf told a

-- so it is at each line of a run
abbrev pub AnswersWhatStands : SpeakerState → Type 0
AnswersWhatStands start = (lines : List Line) (s : SpeakerState) (told : List TranscriptEntry) → AreTaken speaker_rules lines start s told
    → (line : Line) (t : SpeakerState) (entries : List TranscriptEntry) → line_step s line ≡ Goes t entries → IsForWhatStands told line entries

-- so it is whatever the words say, where nothing was shown yet
abbrev pub AllAnswerWhatStands : Type 0
AllAnswerWhatStands = (said : Said) → AnswersWhatStands (first_state said)
