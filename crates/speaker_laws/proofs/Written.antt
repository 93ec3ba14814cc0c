-- What the written lines tell is what the entries do.
use Rattle.std.proofs.Common.{◌≡◌, ◌≢◌, ◌↔◌, ◌⊎◌, ℕ, zero, suc, true, false, not, ◌==◌, List, [], ◌∷◌, ◌++◌}
use Rattle.std.proofs.Common.{map, inl, inr, refl, sym, ap, ◌∙◌, subst, append_assoc, arith}
use Rattle.std.proofs.lemmas.Bool.{and_parts, true≢false}
use Rattle.std.proofs.lemmas.Grind.{flat_map-append}
use Rattle.std.proofs.lemmas.Slice.Eq.{bytes_eq-Decides}
use Rattle.std.specs.List.{AllByRecursion, flat_map}
use Rattle.std.specs.Prelude.{⊤}
use Rattle.std.specs.Str.{bytes_eq}
use Rattle.mlb_base.proofs.Bools.{by_bool}
use Rattle.mlb_base.proofs.Lists.{all-append, all-behind, all-front}
use Rattle.ip_ranges.specs.Values.{AddressValue, IsOfFamily}
use Rattle.kube_lines.specs.Apart.{is_plain}
use Rattle.kube_lines.specs.OutputLines.{accepted_text, announce_text, refused_text, send_text, update_text, withdraw_text}
use Rattle.kube_lines.proofs.Apart.{accepted-announced, accepted-updated, accepted-withdrawn, announced-withdrawn, lines-read}
use Rattle.kube_lines.proofs.Apart.{one-announced, one-updated, one-withdrawn, refused-announced, refused-updated, refused-withdrawn}
use Rattle.kube_lines.proofs.Apart.{sent-announced, sent-updated, sent-withdrawn, updated-announced, updated-withdrawn}
use Rattle.object_cache.specs.declared.change.TakeNote.{TakeNote}
use Rattle.object_cache.specs.declared.change.TakeNote.TheVariants.{Quiet, Accepted, Refused}
use Rattle.line_run.specs.Run.{text_of}
use Rattle.line_run.specs.Text.{line_of}
use Rattle.mlb_edge.specs.Rows.{HasNoNewline, RawLine, raw_lines}
use Rattle.mlb_edge.proofs.RowLemmas.{raw_lines-ended}
use Rattle.program_lines.specs.Lines.{note_text}
use Rattle.speaker_machine.specs.declared.transcript.TranscriptEntry.{TranscriptEntry}
use Rattle.speaker_machine.specs.declared.transcript.TranscriptEntry.TheVariants.{Noted, Withdrawn, Announced, Sent, Updated}
use Rattle.speaker_machine.specs.Transcript.{entry_text}
use Rattle.speaker_machine.specs.Stream.{speaker_rules}
use Rattle.speaker_laws.specs.Heard.{message_to, messages_told}
use Rattle.speaker_laws.specs.Told.{AllLeave, IsToldOf, Leaves}
use Rattle.speaker_laws.specs.Written.{AreWrittenTo, IsAnnouncedIn, lines_in, written_lines}
use Rattle.speaker_laws.proofs.Telling.{told_here, told_later}

cons-head : {T : Type 0} (x y : T) (xs ys : List T) → x ∷ xs ≡ y ∷ ys → x ≡ y
cons-head x y xs ys e = cc

cons-tail : {T : Type 0} (x y : T) (xs ys : List T) → x ∷ xs ≡ y ∷ ys → xs ≡ ys
cons-tail x y xs ys e = cc

no-cons : {T : Type 0} (x : T) (xs : List T) → [] ≡ x ∷ xs → ⊥
no-cons x xs e = absurd (cc)

-- ---- the lines of a text

isnt-ten : (n : ℕ) → not (n == 10) ≡ true → n ≡ 10 → ⊥
isnt-ten n other is = let no : not (n == 10) ≡ false = rw is refl in true≢false (sym other ∙ no)

no-newline : (line : List ℕ) → is_plain line ≡ true → HasNoNewline line
no-newline [] plain k below = absurd (omega (arith, below))
no-newline (b ∷ line) plain zero below = isnt-ten b (and_parts (not (b == 10)) (is_plain line) plain).0
no-newline (b ∷ line) plain (suc k) below = no-newline line (and_parts (not (b == 10)) (is_plain line) plain).1 k (omega (arith, below))

line-cut : (line more : List ℕ) → is_plain line ≡ true → lines_in (line_of line ++ more) ≡ line ∷ lines_in more
line-cut line more plain =
    ap lines_in (append_assoc line (10 ∷ []) more)
    ∙ ap (λ (raws : List RawLine). map (λ (raw : RawLine). raw.bytes) raws) (raw_lines-ended line more (no-newline line plain))

abbrev note_lines : TakeNote → List (List ℕ)
note_lines Quiet = []
note_lines Accepted = accepted_text ∷ []
note_lines (Refused fault) = refused_text fault ∷ []

-- the lines that are written of an entry
abbrev entry_lines : TranscriptEntry → List (List ℕ)
entry_lines (Noted note) = note_lines note
entry_lines (Withdrawn a) = withdraw_text a ∷ []
entry_lines (Announced a) = announce_text a ∷ []
entry_lines (Sent interface frame) = send_text interface frame ∷ []
entry_lines (Updated peer message) = update_text peer message ∷ []

note-cut : (note : TakeNote) (more : List ℕ) → lines_in (note_text note ++ more) ≡ note_lines note ++ lines_in more
note-cut Quiet more = refl
note-cut Accepted more = line-cut accepted_text more lines-read.accepted.one
note-cut (Refused fault) more = line-cut (refused_text fault) more (lines-read.refused fault).one

entry-cut : (entry : TranscriptEntry) (more : List ℕ) → lines_in (entry_text entry ++ more) ≡ entry_lines entry ++ lines_in more
entry-cut (Noted note) more = note-cut note more
entry-cut (Withdrawn a) more = line-cut (withdraw_text a) more (lines-read.withdraw a).one
entry-cut (Announced a) more = line-cut (announce_text a) more (lines-read.announce a).one
entry-cut (Sent interface frame) more = line-cut (send_text interface frame) more (lines-read.send interface frame).one
entry-cut (Updated peer message) more = line-cut (update_text peer message) more (lines-read.update peer message).one

pub entries-cut : (told : List TranscriptEntry) → written_lines told ≡ flat_map entry_lines told
unfolding raw_lines
entries-cut [] = refl
entries-cut (entry ∷ told) = entry-cut entry (text_of speaker_rules told) ∙ ap (λ (lines : List (List ℕ)). entry_lines entry ++ lines) (entries-cut told)

-- ---- the addresses that are told fit their families
abbrev pub FitsAt : TranscriptEntry → Type 0
FitsAt (Noted note) = ⊤
FitsAt (Withdrawn a) = IsOfFamily a
FitsAt (Announced a) = IsOfFamily a
FitsAt (Sent interface frame) = ⊤
FitsAt (Updated peer message) = ⊤

abbrev pub AllFit : List TranscriptEntry → Type 0
AllFit told = AllByRecursion FitsAt told

-- ---- announcements

module _ (a : AddressValue) (fits : IsOfFamily a) where
  abbrev Stays : List ℕ → Type 0
  Stays line = line ≢ withdraw_text a

  note-stays : (note : TakeNote) → AllByRecursion Stays (note_lines note)
  note-stays Quiet = tt
  note-stays Accepted = (λ is. accepted-withdrawn a is, tt)
  note-stays (Refused fault) = (λ is. refused-withdrawn fault a is, tt)

  -- no line of an entry that leaves the address withdraws it
  entry-stays : (entry : TranscriptEntry) → FitsAt entry → Leaves a entry → AllByRecursion Stays (entry_lines entry)
  entry-stays (Noted note) fit leaves = note-stays note
  entry-stays (Withdrawn b) fit leaves = (λ is. leaves (one-withdrawn b a fit fits is), tt)
  entry-stays (Announced b) fit leaves = (λ is. announced-withdrawn b a is, tt)
  entry-stays (Sent interface frame) fit leaves = (λ is. sent-withdrawn interface frame a is, tt)
  entry-stays (Updated peer message) fit leaves = (λ is. updated-withdrawn peer message a is, tt)

  all-stay : (told : List TranscriptEntry) → AllFit told → AllLeave a told → AllByRecursion Stays (flat_map entry_lines told)
  all-stay [] fit leave = tt
  all-stay (entry ∷ told) fit leave =
      all-append Stays (entry_lines entry) (flat_map entry_lines told) (entry-stays entry fit.0 leave.0) (all-stay told fit.1 leave.1)

  -- an entry none of whose lines withdraws the address leaves it
  stays-leaves : (entry : TranscriptEntry) → AllByRecursion Stays (entry_lines entry) → Leaves a entry
  stays-leaves (Noted note) all = tt
  stays-leaves (Withdrawn b) all = λ same. all.0 (ap withdraw_text same)
  stays-leaves (Announced b) all = tt
  stays-leaves (Sent interface frame) all = tt
  stays-leaves (Updated peer message) all = tt

  all-leave : (told : List TranscriptEntry) → AllByRecursion Stays (flat_map entry_lines told) → AllLeave a told
  all-leave [] all = tt
  all-leave (entry ∷ told) all = (
    stays-leaves entry (all-front Stays (entry_lines entry) (flat_map entry_lines told) all),
    all-leave told (all-behind Stays (entry_lines entry) (flat_map entry_lines told) all),
  )

  to-lines : (told : List TranscriptEntry) → AllFit told → IsToldOf told a → IsAnnouncedIn (flat_map entry_lines told) a
  to-lines told fit is =
      let behind : AllFit (Announced a ∷ is.later) = all-behind FitsAt is.earlier (Announced a ∷ is.later) (subst AllFit is.split fit) in
      record {
        earlier = flat_map entry_lines is.earlier;
        later = flat_map entry_lines is.later;
        split = ap (flat_map entry_lines) is.split ∙ flat_map-append entry_lines is.earlier (Announced a ∷ is.later);
        lasts = all-stay is.later behind.1 is.lasts;
      }

  -- the first of some lines is another one
  in-rest : (line : List ℕ) (lines : List (List ℕ)) → (line ≡ announce_text a → ⊥) → IsAnnouncedIn (line ∷ lines) a → IsAnnouncedIn lines a
  in-rest line lines other is = go is.earlier is.later is.split is.lasts where
    go : (earlier later : List (List ℕ)) → line ∷ lines ≡ earlier ++ announce_text a ∷ later → AllByRecursion Stays later → IsAnnouncedIn lines a
    go [] later split lasts = absurd (other (cons-head line (announce_text a) lines later split))
    go (one ∷ earlier) later split lasts =
        record { earlier = earlier; later = later; split = cons-tail line one lines (earlier ++ announce_text a ∷ later) split; lasts = lasts }

  -- or it announces the address
  here-or-later : (line : List ℕ) (lines : List (List ℕ)) → IsAnnouncedIn (line ∷ lines) a → ((line ≡ announce_text a) × AllByRecursion Stays lines)
      ⊎ IsAnnouncedIn lines a
  here-or-later line lines is = go is.earlier is.later is.split is.lasts where
    go : (earlier later : List (List ℕ)) → line ∷ lines ≡ earlier ++ announce_text a ∷ later → AllByRecursion Stays later
        → ((line ≡ announce_text a) × AllByRecursion Stays lines) ⊎ IsAnnouncedIn lines a
    go [] later split lasts =
        inl (cons-head line (announce_text a) lines later split, subst (AllByRecursion Stays) (sym (cons-tail line (announce_text a) lines later split)) lasts)
    go (one ∷ earlier) later split lasts =
        inr (record { earlier = earlier; later = later; split = cons-tail line one lines (earlier ++ announce_text a ∷ later) split; lasts = lasts })

  note-rest : (note : TakeNote) (lines : List (List ℕ)) → IsAnnouncedIn (note_lines note ++ lines) a → IsAnnouncedIn lines a
  note-rest Quiet lines is = is
  note-rest Accepted lines is = in-rest accepted_text lines (λ same. accepted-announced a same) is
  note-rest (Refused fault) lines is = in-rest (refused_text fault) lines (λ same. refused-announced fault a same) is

  from-lines : (told : List TranscriptEntry) → AllFit told → IsAnnouncedIn (flat_map entry_lines told) a → IsToldOf told a
  from-lines [] fit is = absurd (none is.earlier is.later is.split) where
    none : (earlier later : List (List ℕ)) → [] ≡ earlier ++ announce_text a ∷ later → ⊥
    none [] later split = no-cons (announce_text a) later split
    none (one ∷ earlier) later split = no-cons one (earlier ++ announce_text a ∷ later) split
  from-lines (Noted note ∷ told) fit is = told_later a (Noted note) told (from-lines told fit.1 (note-rest note (flat_map entry_lines told) is))
  from-lines (Withdrawn b ∷ told) fit is =
      told_later a (Withdrawn b) told
      (from-lines told fit.1 (in-rest (withdraw_text b) (flat_map entry_lines told) (λ same. announced-withdrawn a b (sym same)) is))
  from-lines (Announced b ∷ told) fit is = elim (here-or-later (announce_text b) (flat_map entry_lines told) is) [
    | inl here ↦ told_here a b told (one-announced b a fit.0 fits here.0) (all-leave told here.1)
    | inr later ↦ told_later a (Announced b) told (from-lines told fit.1 later)
  ]
  from-lines (Sent interface frame ∷ told) fit is =
      told_later a (Sent interface frame) told
      (from-lines told fit.1 (in-rest (send_text interface frame) (flat_map entry_lines told) (λ same. sent-announced interface frame a same) is))
  from-lines (Updated peer message ∷ told) fit is =
      told_later a (Updated peer message) told
      (from-lines told fit.1 (in-rest (update_text peer message) (flat_map entry_lines told) (λ same. updated-announced peer message a same) is))

  -- the written lines say of the address what the entries do
  pub announced-written : (told : List TranscriptEntry) → AllFit told → IsAnnouncedIn (written_lines told) a ↔ IsToldOf told a
  announced-written told fit = (
    λ is. from-lines told fit (subst (λ (lines : List (List ℕ)). IsAnnouncedIn lines a) (entries-cut told) is),
    λ is. subst (λ (lines : List (List ℕ)). IsAnnouncedIn lines a) (sym (entries-cut told)) (to-lines told fit is),
  )

-- ---- messages

module _ (name : List ℕ) where
  -- a line that is no update line for the peer
  passed : (line : List ℕ) (lines messages : List (List ℕ)) → ((message : List ℕ) → line ≢ update_text name message) → AreWrittenTo name lines messages
      → AreWrittenTo name (line ∷ lines) messages
  passed line lines messages other are = inr (other, are)

  note-passed : (note : TakeNote) (lines messages : List (List ℕ)) → AreWrittenTo name lines messages → AreWrittenTo name (note_lines note ++ lines) messages
  note-passed Quiet lines messages are = are
  note-passed Accepted lines messages are = passed accepted_text lines messages (λ message is. accepted-updated name message is) are
  note-passed (Refused fault) lines messages are = passed (refused_text fault) lines messages (λ message is. refused-updated fault name message is) are

  update-written : (peer message : List ℕ) (lines messages : List (List ℕ)) → AreWrittenTo name lines messages
      → AreWrittenTo name (update_text peer message ∷ lines) (message_to name (Updated peer message) ++ messages)
  update-written peer message lines messages are =
      by_bool (AreWrittenTo name (update_text peer message ∷ lines) (message_to name (Updated peer message) ++ messages)) (bytes_eq peer name)
      (λ own. rw own (inl (message, messages, refl, ap (λ (n : List ℕ). update_text n message) ((bytes_eq-Decides peer name).0 own), are)))
      (λ other. rw other (passed (update_text peer message) lines messages
      (λ m is. true≢false (sym ((bytes_eq-Decides peer name).1 (one-updated peer message name m is)) ∙ other)) are))

  all-written : (told : List TranscriptEntry) → AreWrittenTo name (flat_map entry_lines told) (messages_told name told)
  all-written [] = refl
  all-written (Noted note ∷ told) = note-passed note (flat_map entry_lines told) (messages_told name told) (all-written told)
  all-written (Withdrawn a ∷ told) = passed (withdraw_text a) (flat_map entry_lines told) (messages_told name told)
      (λ message is. updated-withdrawn name message a (sym is)) (all-written told)
  all-written (Announced a ∷ told) = passed (announce_text a) (flat_map entry_lines told) (messages_told name told)
      (λ message is. updated-announced name message a (sym is)) (all-written told)
  all-written (Sent interface frame ∷ told) =
      passed (send_text interface frame) (flat_map entry_lines told) (messages_told name told) (λ message is. sent-updated interface frame name message is)
      (all-written told)
  all-written (Updated peer message ∷ told) = update-written peer message (flat_map entry_lines told) (messages_told name told) (all-written told)

  -- the update lines that are written carry the messages that the entries tell
  pub messages-written : (told : List TranscriptEntry) → AreWrittenTo name (written_lines told) (messages_told name told)
  messages-written told = subst (λ (lines : List (List ℕ)). AreWrittenTo name lines (messages_told name told)) (sym (entries-cut told)) (all-written told)
