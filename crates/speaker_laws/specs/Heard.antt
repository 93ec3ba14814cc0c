-- What a BGP peer was told since it came.
use Rattle.std.specs.Prelude.{◌≡◌, ◌≢◌, ℕ, is_some, if◌then◌else◌, List, [], ◌∷◌, ◌++◌, Some, None}
use Rattle.std.specs.List.{AllByRecursion, flat_map}
use Rattle.std.specs.Option.{option_map}
use Rattle.std.specs.Str.{bytes_eq}
use Rattle.ip_ranges.specs.Values.{AddressValue, PrefixValue}
use Rattle.mlb_base.specs.Items.{IsIn}
use Rattle.mlb_edge.specs.declared.lines.Line.{Line}
use Rattle.line_run.specs.Machine.{Goes}
use Rattle.line_run.specs.Run.{AreTaken}
use Rattle.pool_config.specs.declared.compiled.CompiledPeer.{CompiledPeer}
use Rattle.speaker_words.specs.Words.{Said, Say}
use Rattle.bgp_updates.specs.declared.route.Peering.{Peering}
use Rattle.bgp_updates.specs.declared.route.Terms.{Terms}
use Rattle.bgp_updates.specs.Received.{terms_at}
use Rattle.bgp_reading.specs.Joined.{received_bytes}
use Rattle.bgp_reading.specs.Laws.{joined}
use Rattle.bgp_reading.specs.Update.{IsMessageOf}
use Rattle.bgp_routes.specs.Peers.{peers_of}
use Rattle.bgp_routes.specs.Routes.{routes_of}
use Rattle.speaker_machine.specs.declared.transcript.TranscriptEntry.{TranscriptEntry}
use Rattle.speaker_machine.specs.declared.transcript.TranscriptEntry.TheVariants.{Noted, Withdrawn, Announced, Sent, Updated}
use Rattle.speaker_machine.specs.declared.local_node.NextHops.{NextHops}
use Rattle.speaker_machine.specs.Updates.{IsThere}
use Rattle.speaker_machine.specs.Stream.{SpeakerState, first_state, line_step, speaker_rules}

-- the message to the peer of this name, if the entry is one
abbrev pub message_to : List ℕ → TranscriptEntry → List (List ℕ)
message_to name (Updated peer message) = if bytes_eq peer name then message ∷ [] else []
message_to name (Noted note) = []
message_to name (Withdrawn a) = []
message_to name (Announced a) = []
message_to name (Sent interface frame) = []

-- the messages of its update lines
abbrev pub messages_told : List ℕ → List TranscriptEntry → List (List ℕ)
messages_told name told = flat_map (message_to name) told

-- these lines are taken, one after the other, and the peer is there after each of them
abbrev pub StaysOver : CompiledPeer → List Line → SpeakerState → SpeakerState → List TranscriptEntry → Type 0
StaysOver peer [] s t told = (t ≡ s) × (told ≡ [])
StaysOver peer (line ∷ lines) s t told =
    (next : SpeakerState) × (first : List TranscriptEntry) × (rest : List TranscriptEntry) × (line_step s line ≡ Goes next first) × IsThere peer next.view
    × StaysOver peer lines next t rest × (told ≡ first ++ rest)

-- The peer came, or its AS numbers last changed, with the first of the later lines: it isn't there before them, and is after each.
-- `told` is what was told over them.
pub record HasComeSince (start : SpeakerState) (lines : List Line) (peer : CompiledPeer) (t : SpeakerState) (told : List TranscriptEntry) : Type 0 where
  pub earlier : List Line
  pub later : List Line
  pub split : lines ≡ earlier ++ later
  pub s : SpeakerState
  pub before : List TranscriptEntry
  pub reached : AreTaken speaker_rules earlier start s before
  pub absent : ¬ (IsThere peer s.view)
  pub stays : StaysOver peer later s t told

-- The octets of the messages, one after the other, are messages (RFC 4271, section 4.3), and after them the empty table is this one.
abbrev pub GiveTable : List (List ℕ) → List (PrefixValue × Terms) → Type 0
GiveTable messages routes = (p : PrefixValue) → option_map (λ table. table p) (received_bytes (λ q. None) (joined messages)) ≡ Some (terms_at routes p)

-- who the messages to the peer are from: the own AS number where the peer is of another AS, and the next hops
pub record IsSender (peer : CompiledPeer) (hops : NextHops) (sender : Peering) : Type 0 where
  pub next_hop : sender.next_hop ≡ hops.v4.number
  pub next_hop_v6 : (hop : AddressValue) → hops.v6 ≡ Some hop → sender.next_hop_v6 ≡ hop.number
  pub inside : peer.my_asn ≡ peer.peer_asn → sender.own ≡ None
  pub outside : peer.my_asn ≢ peer.peer_asn → sender.own ≡ Some peer.my_asn

-- each is one message of that sender
abbrev pub AreToldBy : CompiledPeer → NextHops → List (List ℕ) → Type 0
AreToldBy peer hops messages = (sender : Peering) × IsSender peer hops sender × AllByRecursion (IsMessageOf sender) messages

-- The peer has come with one of these lines, and what it was told since then are messages after which its table is that of its routes, of IPv4
-- and with a next hop of IPv6 of both families.
abbrev pub HearsSince : (start : SpeakerState) (lines : List Line) (t : SpeakerState) → NextHops → CompiledPeer → Type 0
HearsSince start lines t hops peer =
    ((told : List TranscriptEntry) × HasComeSince start lines peer t told)
    × ((told : List TranscriptEntry) → HasComeSince start lines peer t told
    → GiveTable (messages_told peer.name told) (routes_of t.view start.local.node peer (is_some hops.v6))
    × AreToldBy peer hops (messages_told peer.name told))

-- so it is after any lines, with a next hop, with each peer of the configuration in force
abbrev pub HearsItsRoutes : SpeakerState → Type 0
HearsItsRoutes start = (lines : List Line) (t : SpeakerState) (all : List TranscriptEntry) → AreTaken speaker_rules lines start t all
    → (hops : NextHops) → start.local.next_hops ≡ Some hops → (peer : CompiledPeer) → IsIn (peers_of t.view) peer → HearsSince start lines t hops peer

-- so it is of a run that begins with what words say
abbrev pub PeersHearTheirRoutes : Type 0
PeersHearTheirRoutes = (words : List (List ℕ)) (said : Said) → Say words said → HearsItsRoutes (first_state said)
