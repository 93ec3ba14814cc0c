-- Which addresses are announced by what was told, and what is told of an event.
use Rattle.std.specs.Prelude.{◌≡◌, ◌≢◌, ◌↔◌, ℕ, List, [], ◌∷◌, ◌++◌, ⊤}
use Rattle.std.specs.List.Sorted.{IsStrictlySortedBy}
use Rattle.mlb_base.specs.Items.{IsIn}
use Rattle.ip_ranges.specs.Values.{AddressValue}
use Rattle.speaker_view.specs.ViewValue.{ViewValue}
use Rattle.l2_elect.specs.Election.{IsAnnouncer}
use Rattle.announced_set.specs.Announced.{address_cmp}
use Rattle.speaker_words.specs.Words.{Said}
use Rattle.mlb_edge.specs.declared.lines.Line.{Line}
use Rattle.line_run.specs.Machine.{Goes}
use Rattle.line_run.specs.Run.{AreTaken}
use Rattle.speaker_machine.specs.declared.transcript.TranscriptEntry.{TranscriptEntry}
use Rattle.speaker_machine.specs.declared.transcript.TranscriptEntry.TheVariants.{Noted, Withdrawn, Announced, Sent, Updated}
use Rattle.speaker_machine.specs.Stream.{SpeakerState, first_state, line_step, speaker_rules}

-- the entry isn't a withdraw line of the address
abbrev pub Leaves : AddressValue → TranscriptEntry → Type 0
Leaves a (Noted note) = ⊤
Leaves a (Withdrawn b) = b ≢ a
Leaves a (Announced b) = ⊤
Leaves a (Sent interface frame) = ⊤
Leaves a (Updated peer message) = ⊤

abbrev pub AllLeave : AddressValue → List TranscriptEntry → Type 0
AllLeave a [] = ⊤
AllLeave a (e ∷ entries) = Leaves a e × AllLeave a entries

-- The address has an announce line, and no later withdraw line.
pub record IsToldOf (told : List TranscriptEntry) (a : AddressValue) : Type 0 where
  pub earlier : List TranscriptEntry
  pub later : List TranscriptEntry
  pub split : told ≡ earlier ++ Announced a ∷ later
  pub lasts : AllLeave a later

-- After any lines that are taken, one after the other, the addresses with an announce line and no later withdraw line are exactly
-- those that the node announces.
abbrev pub TellsWhatIsAnnounced : SpeakerState → Type 0
TellsWhatIsAnnounced start = (lines : List Line) (s : SpeakerState) (told : List TranscriptEntry) → AreTaken speaker_rules lines start s told
    → (a : AddressValue) → IsToldOf told a ↔ IsAnnouncer s.view a start.local.node

-- so it is whatever the words say, where nothing was shown yet
abbrev pub LinesTellWhatIsAnnounced : Type 0
LinesTellWhatIsAnnounced = (said : Said) → TellsWhatIsAnnounced (first_state said)

-- ---- what is told of one event
-- the addresses of the withdraw lines, in their order
abbrev pub withdrawn_in : List TranscriptEntry → List AddressValue
withdrawn_in [] = []
withdrawn_in (Withdrawn a ∷ entries) = a ∷ withdrawn_in entries
withdrawn_in (Noted note ∷ entries) = withdrawn_in entries
withdrawn_in (Announced a ∷ entries) = withdrawn_in entries
withdrawn_in (Sent interface frame ∷ entries) = withdrawn_in entries
withdrawn_in (Updated peer message ∷ entries) = withdrawn_in entries

-- those of the announce lines
abbrev pub announced_in : List TranscriptEntry → List AddressValue
announced_in [] = []
announced_in (Announced a ∷ entries) = a ∷ announced_in entries
announced_in (Noted note ∷ entries) = announced_in entries
announced_in (Withdrawn a ∷ entries) = announced_in entries
announced_in (Sent interface frame ∷ entries) = announced_in entries
announced_in (Updated peer message ∷ entries) = announced_in entries

-- the node announces the address by the one view, and doesn't by the other
abbrev pub AnnouncesAlone : List ℕ → ViewValue → ViewValue → AddressValue → Type 0
AnnouncesAlone node v other a = IsAnnouncer v a node × ¬ (IsAnnouncer other a node)

-- Withdraw lines tell just what the node announces no more, and after them announce lines what it announces from now on, each address once, IPv4
-- before IPv6 and each family ascending.
pub record TellsChange (node : List ℕ) (before after : ViewValue) (entries : List TranscriptEntry) : Type 0 where
  pub withdrawn : (a : AddressValue) → IsIn (withdrawn_in entries) a ↔ AnnouncesAlone node before after a
  pub announced : (a : AddressValue) → IsIn (announced_in entries) a ↔ AnnouncesAlone node after before a
  pub withdrawn_ascend : IsStrictlySortedBy address_cmp (withdrawn_in entries)
  pub announced_ascend : IsStrictlySortedBy address_cmp (announced_in entries)
  pub first : List TranscriptEntry
  pub later : List TranscriptEntry
  pub split : entries ≡ first ++ later
  pub first_withdraws : announced_in first ≡ []
  pub later_announces : withdrawn_in later ≡ []

-- At each line of a run just what its event changes is told so.
abbrev pub TellsWhatChanges : SpeakerState → Type 0
TellsWhatChanges start = (lines : List Line) (s : SpeakerState) (told : List TranscriptEntry) → AreTaken speaker_rules lines start s told
    → (line : Line) (t : SpeakerState) (entries : List TranscriptEntry) → line_step s line ≡ Goes t entries → TellsChange start.local.node s.view t.view entries
