-- Which frames are sent of an event, and what they say.
use Rattle.std.specs.Prelude.{◌≡◌, ◌⊎◌, ℕ, List, [], ◌∷◌, ⊤, Contains, Option, Some, None, Ok}
use Rattle.std.specs.List.{AllByRecursion}
use Rattle.mlb_base.specs.Items.{IsIn}
use Rattle.ip_ranges.specs.Values.{AddressValue}
use Rattle.kube_events.specs.Event.{event_of_line}
use Rattle.kube_model.specs.declared.event.Event.{Event}
use Rattle.speaker_view.specs.ViewValue.{ViewValue}
use Rattle.l2_elect.specs.Listening.{Listens}
use Rattle.neigh_frames.specs.Arp.{IsArpAnswer}
use Rattle.neigh_frames.specs.Ndp.{IsNdpAnswer}
use Rattle.mlb_edge.specs.declared.lines.Line.{Line}
use Rattle.line_run.specs.Machine.{Goes}
use Rattle.line_run.specs.Run.{AreTaken}
use Rattle.speaker_words.specs.Words.{Said}
use Rattle.speaker_machine.specs.declared.transcript.TranscriptEntry.{TranscriptEntry}
use Rattle.speaker_machine.specs.declared.transcript.TranscriptEntry.TheVariants.{Noted, Withdrawn, Announced, Sent, Updated}
use Rattle.speaker_machine.specs.declared.local_node.Interface.{Interface}
use Rattle.speaker_machine.specs.declared.local_node.LocalNode.{LocalNode}
use Rattle.speaker_machine.specs.Sends.{unsolicited_of}
use Rattle.speaker_machine.specs.Stream.{SpeakerState, Received, first_state, frame_in, line_step, speaker_rules}
use Rattle.speaker_laws.specs.Told.{announced_in}

-- An interface of the words, on which the node listens for the address, says of itself that its hardware address has it: by a gratuitous ARP
-- (RFC 5227, section 3) or an unsolicited advertisement (RFC 4861, section 7.2.6).
pub record IsUnasked (v : ViewValue) (local : LocalNode) (a : AddressValue) (name frame : List ℕ) : Type 0 where
  pub interface : Interface
  pub of_words : Contains local.interfaces interface
  pub named : interface.name ≡ name
  pub listens : Listens v local.node interface.name a
  pub says : frame ≡ unsolicited_of a.family interface.mac a.number

-- The interface of the words by which a frame came answers it: a request (RFC 826) or a solicitation (RFC 4861, section 7.2.3) of an address for
-- which the node listens on that interface.
pub record IsAnswer (v : ViewValue) (local : LocalNode) (received : Received) (frame : List ℕ) : Type 0 where
  pub interface : Interface
  pub of_words : Contains local.interfaces interface
  pub named : interface.name ≡ received.interface
  pub says : IsArpAnswer v local.node interface.name interface.mac received.frame frame
      ⊎ IsNdpAnswer v local.node interface.name interface.mac received.frame frame

-- the entry is no frame, or an unsolicited one of an address that these entries announce
abbrev pub IsOfThese : ViewValue → LocalNode → List TranscriptEntry → TranscriptEntry → Type 0
IsOfThese v local entries (Noted note) = ⊤
IsOfThese v local entries (Withdrawn a) = ⊤
IsOfThese v local entries (Announced a) = ⊤
IsOfThese v local entries (Updated peer message) = ⊤
IsOfThese v local entries (Sent name frame) = (a : AddressValue) × IsIn (announced_in entries) a × IsUnasked v local a name frame

-- Just the unsolicited frames of the addresses that the entries announce are sent, each of them.
pub record SendsUnasked (v : ViewValue) (local : LocalNode) (entries : List TranscriptEntry) : Type 0 where
  pub only : AllByRecursion (IsOfThese v local entries) entries
  pub each : (a : AddressValue) → IsIn (announced_in entries) a → (name frame : List ℕ) → IsUnasked v local a name frame → IsIn entries (Sent name frame)

-- the answer to the frame is sent by the interface by which it came, and nothing else is told; nothing where it has no answer
abbrev pub SendsAnswer : ViewValue → LocalNode → Received → List TranscriptEntry → Type 0
SendsAnswer v local received entries =
    ((frame : List ℕ) × IsAnswer v local received frame × (entries ≡ Sent received.interface frame ∷ []))
    ⊎ (((frame : List ℕ) → ¬ (IsAnswer v local received frame)) × (entries ≡ []))

-- what is sent of an event: of a received frame its answer, of others the unsolicited frames of what they announce
abbrev pub SendsOf : ViewValue → LocalNode → Option Received → List TranscriptEntry → Type 0
SendsOf v local None entries = SendsUnasked v local entries
SendsOf v local (Some received) entries = SendsAnswer v local received entries

-- At each line of a run just the frames are sent that are meant of its event, by what was shown then.
abbrev pub SendsWhatIsMeant : SpeakerState → Type 0
SendsWhatIsMeant start = (lines : List Line) (s : SpeakerState) (told : List TranscriptEntry) → AreTaken speaker_rules lines start s told
    → (line : Line) (t : SpeakerState) (entries : List TranscriptEntry) → line_step s line ≡ Goes t entries
    → (event : Event) → event_of_line line.bytes ≡ Ok event → SendsOf t.view t.local (frame_in event) entries

-- so it is whatever the words say, where nothing was shown yet
abbrev pub AllSendWhatIsMeant : Type 0
AllSendWhatIsMeant = (said : Said) → SendsWhatIsMeant (first_state said)
