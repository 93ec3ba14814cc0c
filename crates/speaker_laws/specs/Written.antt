-- What the lines tell that are written.
use Rattle.std.specs.Prelude.{◌≡◌, is_some, ◌≢◌, ◌↔◌, ◌⊎◌, ℕ, List, [], ◌∷◌, ◌++◌, map, Some}
use Rattle.std.specs.List.{AllByRecursion}
use Rattle.ip_ranges.specs.Values.{AddressValue, IsOfFamily}
use Rattle.kube_lines.specs.OutputLines.{announce_text, update_text, withdraw_text}
use Rattle.l2_elect.specs.Election.{IsAnnouncer}
use Rattle.mlb_base.specs.Items.{IsIn}
use Rattle.mlb_edge.specs.declared.lines.Line.{Line}
use Rattle.mlb_edge.specs.Rows.{raw_lines}
use Rattle.line_run.specs.Run.{AreTaken, text_of}
use Rattle.pool_config.specs.declared.compiled.CompiledPeer.{CompiledPeer}
use Rattle.bgp_routes.specs.Peers.{peers_of}
use Rattle.bgp_routes.specs.Routes.{routes_of}
use Rattle.speaker_machine.specs.declared.transcript.TranscriptEntry.{TranscriptEntry}
use Rattle.speaker_machine.specs.declared.local_node.NextHops.{NextHops}
use Rattle.speaker_machine.specs.Stream.{SpeakerState, speaker_rules}
use Rattle.speaker_laws.specs.Heard.{AreToldBy, GiveTable, HasComeSince}

-- the lines of a text
abbrev pub lines_in : List ℕ → List (List ℕ)
lines_in text = map (λ raw. raw.bytes) (raw_lines text)

-- those that are written of entries
abbrev pub written_lines : List TranscriptEntry → List (List ℕ)
written_lines told = lines_in (text_of speaker_rules told)

-- The address has an announce line, and no later withdraw line.
pub record IsAnnouncedIn (lines : List (List ℕ)) (a : AddressValue) : Type 0 where
  pub earlier : List (List ℕ)
  pub later : List (List ℕ)
  pub split : lines ≡ earlier ++ announce_text a ∷ later
  pub lasts : AllByRecursion (λ line. line ≢ withdraw_text a) later

-- After any lines that are taken, one after the other, the addresses with an announce line that is written and no withdraw line written after it
-- are exactly those that the node announces.
abbrev pub WritesWhatIsAnnounced : SpeakerState → Type 0
WritesWhatIsAnnounced start = (lines : List Line) (s : SpeakerState) (told : List TranscriptEntry) → AreTaken speaker_rules lines start s told
    → (a : AddressValue) → IsOfFamily a → IsAnnouncedIn (written_lines told) a ↔ IsAnnouncer s.view a start.local.node

-- the messages of the update lines for the peer of this name, in their order
abbrev pub AreWrittenTo : List ℕ → List (List ℕ) → List (List ℕ) → Type 0
AreWrittenTo name [] messages = messages ≡ []
AreWrittenTo name (line ∷ lines) messages =
    ((message : List ℕ) × (more : List (List ℕ)) × (messages ≡ message ∷ more) × (line ≡ update_text name message) × AreWrittenTo name lines more)
    ⊎ (((message : List ℕ) → line ≢ update_text name message) × AreWrittenTo name lines messages)

-- After any lines that are taken, with a next hop, the update lines that are written for a peer of the configuration in force since it came, or since
-- its AS numbers last changed, carry messages which make its routes of the empty table.
abbrev pub WritesPeersTheirRoutes : SpeakerState → Type 0
WritesPeersTheirRoutes start = (lines : List Line) (t : SpeakerState) (all : List TranscriptEntry) → AreTaken speaker_rules lines start t all
    → (hops : NextHops) → start.local.next_hops ≡ Some hops → (peer : CompiledPeer) → IsIn (peers_of t.view) peer
    → (told : List TranscriptEntry) → HasComeSince start lines peer t told
    → (messages : List (List ℕ)) × AreWrittenTo peer.name (written_lines told) messages
    × GiveTable messages (routes_of t.view start.local.node peer (is_some hops.v6)) × AreToldBy peer hops messages
