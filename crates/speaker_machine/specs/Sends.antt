-- The frames that are sent: unsolicited ones, and answers.
use Rattle.std.specs.Prelude.{ℕ, List, [], ◌∷◌, map, filter, Option, Some, None}
use Rattle.std.specs.List.{find}
use Rattle.std.specs.Option.{option_or}
use Rattle.std.specs.Str.{bytes_eq}
use Rattle.ip_ranges.specs.declared.family.Family.{Family}
use Rattle.ip_ranges.specs.declared.family.Family.TheVariants.{V4, V6}
use Rattle.ip_ranges.specs.Values.{AddressValue}
use Rattle.speaker_view.specs.ViewValue.{ViewValue}
use Rattle.l2_elect.specs.Listening.{listens_of}
use Rattle.neigh_frames.specs.Arp.{arp_answer_of, unasked_arp_of}
use Rattle.neigh_frames.specs.Ndp.{ndp_answer_of}
use Rattle.neigh_frames.specs.Advertisement.{unasked_ndp_of}
use Rattle.speaker_machine.specs.declared.transcript.TranscriptEntry.{TranscriptEntry}
use Rattle.speaker_machine.specs.declared.transcript.TranscriptEntry.TheVariants.{Announced, Sent}
use Rattle.speaker_machine.specs.declared.local_node.Interface.{Interface}
use Rattle.speaker_machine.specs.declared.local_node.LocalNode.{LocalNode}

-- the unsolicited frame that says that this hardware address has the address
abbrev pub unsolicited_of : Family → List ℕ → ℕ → List ℕ
unsolicited_of V4 mac number = unasked_arp_of mac number
unsolicited_of V6 mac number = unasked_ndp_of mac number

-- the same, by an interface
abbrev pub unsolicited_by : AddressValue → Interface → TranscriptEntry
unsolicited_by a i = Sent i.name (unsolicited_of a.family i.mac a.number)

-- the interfaces on which the node listens for the address
abbrev pub listening : ViewValue → LocalNode → AddressValue → List Interface
listening v local a = filter (λ i. listens_of v local.node i.name a) local.interfaces

-- what is sent where the address is announced from now on: an unsolicited frame by each of them
abbrev pub unsolicited : ViewValue → LocalNode → AddressValue → List TranscriptEntry
unsolicited v local a = map (unsolicited_by a) (listening v local a)

-- an announce line, and what is sent with it
abbrev pub announcement : ViewValue → LocalNode → AddressValue → List TranscriptEntry
announcement v local a = Announced a ∷ unsolicited v local a

-- the answer to a frame on an interface: that of ARP, else that of Neighbor Discovery
abbrev pub answer_on : ViewValue → List ℕ → Interface → List ℕ → Option (List ℕ)
answer_on v node i frame =
    option_or (arp_answer_of (listens_of v node i.name) i.mac frame) (ndp_answer_of (listens_of v node i.name) i.mac frame)

abbrev pub sent_on : Interface → Option (List ℕ) → List TranscriptEntry
sent_on i None = []
sent_on i (Some answer) = Sent i.name answer ∷ []

abbrev pub answer_by : ViewValue → List ℕ → Option Interface → List ℕ → List TranscriptEntry
answer_by v node None frame = []
answer_by v node (Some i) frame = sent_on i (answer_on v node i frame)

-- the interface of this name
abbrev pub interface_of : LocalNode → List ℕ → Option Interface
interface_of local name = find (λ i. bytes_eq i.name name) local.interfaces

-- what is sent where an interface receives a frame: the answer, where it is one of the words' and the frame has one
abbrev pub answers : ViewValue → LocalNode → List ℕ → List ℕ → List TranscriptEntry
answers v local name frame = answer_by v local.node (interface_of local name) frame
