-- What is right of a run over lines: what is told of each of them, and what all that was told so far comes to.
use Rattle.std.specs.Prelude.{◌≡◌, ◌↔◌, ℕ, is_some, List, ◌∷◌, ◌++◌, String, Option, Some, Ok}
use Rattle.bgp_routes.specs.Peers.{peers_of}
use Rattle.bgp_routes.specs.Routes.{routes_of}
use Rattle.ip_ranges.specs.Values.{AddressValue, IsOfFamily}
use Rattle.kube_events.specs.Event.{event_of_line}
use Rattle.kube_model.specs.declared.event.Event.{Event}
use Rattle.l2_elect.specs.Election.{IsAnnouncer}
use Rattle.line_run.specs.Machine.{Goes}
use Rattle.line_run.specs.Run.{AreTaken}
use Rattle.line_run.specs.RunOutput.{WritesOnly}
use Rattle.mlb_base.specs.Items.{IsIn}
use Rattle.mlb_edge.specs.declared.lines.Line.{Line}
use Rattle.pool_config.specs.declared.compiled.CompiledPeer.{CompiledPeer}
use Rattle.speaker_machine.specs.declared.local_node.NextHops.{NextHops}
use Rattle.speaker_machine.specs.declared.transcript.TranscriptEntry.{TranscriptEntry}
use Rattle.speaker_machine.specs.Stream.{SpeakerState, frame_in, line_step, speaker_rules}
use Rattle.speaker_laws.specs.Answered.{IsForWhatStands}
use Rattle.speaker_laws.specs.Clauses.{SpeaksForNamed, begun_by}
use Rattle.speaker_laws.specs.Heard.{AreToldBy, GiveTable, HasComeSince, HearsSince}
use Rattle.speaker_laws.specs.Meant.{SendsOf}
use Rattle.speaker_laws.specs.Told.{IsToldOf, TellsChange}
use Rattle.speaker_laws.specs.Written.{AreWrittenTo, IsAnnouncedIn, written_lines}

-- What was told of these lines, which led from the one state to the other.
pub record IsRightSoFar (start : SpeakerState) (lines : List Line) (s : SpeakerState) (told : List TranscriptEntry) : Type 0 where
  -- the addresses with an announce line and no later withdraw line are exactly those that the node announces by what was shown
  pub announced : (a : AddressValue) → IsToldOf told a ↔ IsAnnouncer s.view a start.local.node
  -- with a next hop, what a peer of the configuration in force was told since it came, or since its AS numbers last changed, makes its routes
  -- of the empty table
  pub routes : (hops : NextHops) → start.local.next_hops ≡ Some hops → (peer : CompiledPeer) → IsIn (peers_of s.view) peer → HearsSince start lines s hops peer
  -- the same of the lines as they are written
  pub announced_written : (a : AddressValue) → IsOfFamily a → IsAnnouncedIn (written_lines told) a ↔ IsAnnouncer s.view a start.local.node
  pub routes_written : (hops : NextHops) → start.local.next_hops ≡ Some hops → (peer : CompiledPeer) → IsIn (peers_of s.view) peer
      → (since : List TranscriptEntry) → HasComeSince start lines peer s since
      → (messages : List (List ℕ)) × AreWrittenTo peer.name (written_lines since) messages
      × GiveTable messages (routes_of s.view start.local.node peer (is_some hops.v6)) × AreToldBy peer hops messages

-- What is told of one line, after what was told before.
pub record IsRightAt (node : List ℕ) (s t : SpeakerState) (told : List TranscriptEntry) (line : Line) (entries : List TranscriptEntry) : Type 0 where
  -- withdraw lines for just what the node announces no more, and after them announce lines for just what it announces from now on
  pub changes : TellsChange node s.view t.view entries
  -- just the frames that are meant of its event: of a received frame its answer, of others the unsolicited frames of what is announced
  pub sends : (event : Event) → event_of_line line.bytes ≡ Ok event → SendsOf t.view t.local (frame_in event) entries
  -- and a received frame is answered only for an address that has an announce line, and no later withdraw line
  pub answers : IsForWhatStands told line entries

-- The run of these lines is that of what the words say; it is right after each beginning of them that is taken, and at each line.
pub record IsRightRun {Z : Type 0} (words : List (String Z)) (lines : List Line) : Type 0 where
  pub named : SpeaksForNamed words
  pub so_far : (earlier later : List Line) (s : SpeakerState) (told : List TranscriptEntry) → lines ≡ earlier ++ later
      → AreTaken speaker_rules earlier (begun_by words) s told → IsRightSoFar (begun_by words) earlier s told
  pub at_each : (earlier later : List Line) (line : Line) (s t : SpeakerState) (told entries : List TranscriptEntry) → lines ≡ earlier ++ line ∷ later
      → AreTaken speaker_rules earlier (begun_by words) s told → line_step s line ≡ Goes t entries
      → IsRightAt (begun_by words).local.node s t told line entries

-- A beginning of the text of the input's run was written, or of some lines' run where the source doesn't tell its bytes, and that run is right.
pub record WritesRightly {Z : Type 0} (words : List (String Z)) (left before after : Option (List ℕ)) : Type 0 where
  pub written : WritesOnly speaker_rules (begun_by words) left before after
  pub right : IsRightRun words written.lines

-- so is each run that the words begin, whatever its lines
abbrev pub RunsAreRight : {Z : Type 0} → List (String Z) → Type 0
RunsAreRight words = (lines : List Line) → IsRightRun words lines
