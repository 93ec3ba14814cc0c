-- What is told of the watched objects beside a responder is what is told of lines.
use Rattle.std.proofs.Common.{◌≡◌, List, [], ◌∷◌, ◌++◌, map, Option, Some, None, Result, Ok, is_none, true, refl, sym, ap, ◌∙◌, subst, inl, inr, ℕ}
use Rattle.std.proofs.lemmas.Bool.{false≢true}
use Rattle.std.proofs.lemmas.List.{append-nil}
use Rattle.std.specs.List.{AllByRecursion}
use Rattle.kube_events.specs.Event.{event_of_line}
use Rattle.kube_model.specs.declared.event.Event.{Event}
use Rattle.kube_model.specs.declared.event.EventFault.{EventFault}
use Rattle.lane_drive.proofs.ReadItems.{all_lanes, begins_read}
use Rattle.lane_drive.specs.Drive.{Told, AreTaken as AreItemsTaken}
use Rattle.lane_drive.specs.Laws.{IsRead}
use Rattle.lane_mail.specs.Lanes.{items_of}
use Rattle.lane_mail.specs.declared.item.Item.{Item}
use Rattle.lane_mail.specs.declared.lane.Lane.{Lane}
use Rattle.lane_mail.specs.declared.lane.Lane.TheVariants.{First, Second}
use Rattle.lane_run.specs.Watched.{Begins}
use Rattle.line_run.specs.Machine.{Goes}
use Rattle.line_run.specs.Run.{AreTaken}
use Rattle.mlb_edge.specs.declared.lines.Line.{Line}
use Rattle.shown_board.specs.Boarded.{Boarded}
use Rattle.speaker_view.specs.View.{limit_by}
use Rattle.speaker_machine.specs.Lanes.{belongs_to}
use Rattle.speaker_machine.specs.Stream.{SpeakerState, Received, frame_in, line_step, speaker_rules, state_after}
use Rattle.speaker_machine.specs.declared.transcript.TranscriptEntry.{TranscriptEntry}
use Rattle.speaker_laws.proofs.Quiet.{item_goes}
use Rattle.speaker_laws.proofs.Telling.{limit_goes}
use Rattle.speaker_run.proofs.Responded.{AreFrames, AreOf, items_are_of}
use Rattle.speaker_run.proofs.ShownSteps.{IsSided, IsWatched, frame_first, frame_step, shows_watched, watched_first, watched_step}
use Rattle.speaker_run.specs.ResponderClauses.{WatchIsAsLines, told_at, told_of_watch, tells}
use Rattle.speaker_run.specs.Responding.{AreAnswered, ShownEntry, ShownState, Tells, shown_rules, unshown, view_after_all, watch_events}

-- ---- what both lanes send
none_there : {A : Type 0} (o : Option A) → is_none o ≡ true → o ≡ None
none_there None e = refl
none_there (Some a) e = absurd (false≢true e)

pub watched_sides : (items : List Item) → AllByRecursion (IsRead belongs_to) items → AreOf First items → AllByRecursion IsWatched items
watched_sides [] all of = tt
watched_sides (item ∷ items) all of =
    let fits : belongs_to First item.event ≡ true = subst (λ (lane : Lane). belongs_to lane item.event ≡ true) of.0 all.0.fits in
    ((all.0, none_there (frame_in item.event) fits), watched_sides items all.1 of.1)

-- what is sent as an answer is a frame
pub answers_are_frames : (start : SpeakerState) (events : List Event) (low : ℕ) (items sent : List Item) → AreAnswered start events low items sent
    → AreFrames sent
answers_are_frames start events low [] [] answered = tt
answers_are_frames start events low [] (one ∷ sent) answered = absurd answered
answers_are_frames start events low (item ∷ items) [] answered = absurd answered
answers_are_frames start events low (item ∷ items) (one ∷ sent) (seen, own, more) =
    ((_, ap frame_in own.is), answers_are_frames start events seen items sent more)

all_left : (items : List Item) → AllByRecursion IsWatched items → AllByRecursion IsSided items
all_left [] all = tt
all_left (item ∷ items) all = (inl all.0, all_left items all.1)

all_right : (items : List Item) → AreFrames items → AllByRecursion IsSided items
all_right [] all = tt
all_right (item ∷ items) all = (inr all.0, all_right items all.1)

-- events of the watched lane and frames
pub sided : (first : Option (List ℕ)) (items : List Item) → Begins belongs_to First first (items_of First items) → AreFrames (items_of Second items)
    → AllByRecursion IsSided items
sided first items firsts seconds =
    let watched = items_of First items in
    all_lanes IsSided items (all_left watched (watched_sides watched (begins_read belongs_to First first watched firsts) (items_are_of First items)))
    (all_right (items_of Second items) seconds)

-- ---- lines with the watched events
tells_map : (entries : List TranscriptEntry) → tells (map Tells entries) ≡ entries
tells_map [] = refl
tells_map (entry ∷ entries) = ap (λ (es : List TranscriptEntry). entry ∷ es) (tells_map entries)

-- These lines have the watched events of the items, are taken so in one stream, just these events are published, and the view is that after them.
record Lined (items : List Item) (s t : ShownState) (told : List (Told ShownEntry)) : Type 0 where
  lines : List Line
  events : map (λ line. event_of_line line.bytes) lines ≡ map (λ event. Ok event) (watch_events items)
  taken : AreTaken speaker_rules lines s.speaker t.speaker (told_of_watch told)
  published : t.board.published ≡ s.board.published ++ watch_events items
  no_pending : t.board.pending ≡ []
  view : t.speaker.view ≡ view_after_all s.speaker.view (watch_events items)

-- one item more
module _ (item : Item) (items : List Item) (s next t : ShownState) (entries : List ShownEntry) (more : List (Told ShownEntry))
    (no_pending : s.board.pending ≡ []) (steps : shown_rules.take s item ≡ Goes next entries) where
  abbrev all_told : List (Told ShownEntry)
  all_told = (record { item = item; entries = entries }) ∷ more

  lined_watched : (read : IsRead belongs_to item) → frame_in item.event ≡ None → (next.board.pending ≡ [] → Lined items next t more)
      → Lined (item ∷ items) s t all_told
  lined_watched read none others =
      let p = watched_step s next item entries none steps in
      let rest = others (ap (λ (b : Boarded Event). b.pending) p.board) in
      let line : Line = record { number = item.number; bytes = read.bytes } in
      let goes : line_step s.speaker line ≡ Goes next.speaker p.told = rw read.read p.steps in
      let moved : next.speaker ≡ state_after s.speaker item.event =
      (limit_goes (limit_by s.speaker.view item.event) s.speaker next.speaker item.event p.told p.steps).0 in
      let own : told_at (frame_in item.event) entries ≡ p.told =
      ap (λ (frame : Option Received). told_at frame entries) none ∙ ap tells p.are ∙ tells_map p.told in
      record {
        lines = line ∷ rest.lines;
        events = ap (λ (event : Result Event EventFault). event ∷ map (λ line. event_of_line line.bytes) rest.lines) read.read
            ∙ ap (λ (events : List (Result Event EventFault)). Ok item.event ∷ events) rest.events
            ∙ ap (λ (events : List Event). map (λ event. Ok event) events) (sym (watched_first item items none));
        taken = (next.speaker, p.told, told_of_watch more, goes, rest.taken, ap (λ (es : List TranscriptEntry). es ++ told_of_watch more) own);
        published = rest.published ∙ shows_watched s next item items none no_pending p.board;
        no_pending = rest.no_pending;
        view = rest.view ∙ ap (λ (u : SpeakerState). view_after_all u.view (watch_events items)) moved
            ∙ ap (λ (events : List Event). view_after_all s.speaker.view events) (sym (watched_first item items none));
      }

  lined_frame : (received : Received) → frame_in item.event ≡ Some received → (next.board.pending ≡ [] → Lined items next t more)
      → Lined (item ∷ items) s t all_told
  lined_frame received is others =
      let a = frame_step s next item entries received is steps in
      let rest : Lined items s t more =
      subst (λ (u : ShownState). Lined items u t more) a.same (others (ap (λ (u : ShownState). u.board.pending) a.same ∙ no_pending)) in
      record {
        lines = rest.lines;
        events = rest.events ∙ ap (λ (events : List Event). map (λ event. Ok event) events) (sym (frame_first item items received is));
        taken = subst (AreTaken speaker_rules rest.lines s.speaker t.speaker)
            (ap (λ (frame : Option Received). told_at frame entries ++ told_of_watch more) (sym is)) rest.taken;
        published = rest.published ∙ ap (λ (events : List Event). s.board.published ++ events) (sym (frame_first item items received is));
        no_pending = rest.no_pending;
        view = rest.view ∙ ap (λ (events : List Event). view_after_all s.speaker.view events) (sym (frame_first item items received is));
      }

lined : (items : List Item) (replies : List Line) (s t : ShownState) (told : List (Told ShownEntry)) → AllByRecursion IsSided items → s.board.pending ≡ []
    → AreItemsTaken shown_rules items replies s t told → Lined items s t told
lined [] replies s t told sides no_pending (none, same, nothing) = record {
  lines = [];
  events = refl;
  taken = (ap (λ (u : ShownState). u.speaker) same, ap told_of_watch nothing);
  published = ap (λ (u : ShownState). u.board.published) same ∙ sym (append-nil s.board.published);
  no_pending = ap (λ (u : ShownState). u.board.pending) same ∙ no_pending;
  view = ap (λ (u : ShownState). u.speaker.view) same;
}
lined (item ∷ items) replies s t told sides no_pending (own, behind, next, entries, more, split, taken, others, is) =
    let steps = item_goes shown_rules (λ u. refl) item own s next entries taken in
    let rest = λ (none : next.board.pending ≡ []). lined items behind next t more sides.1 none others in
    subst (Lined (item ∷ items) s t) (sym is) (by sides.0 steps rest)
  where
    by : IsSided item → shown_rules.take s item ≡ Goes next entries → (next.board.pending ≡ [] → Lined items next t more)
        → Lined (item ∷ items) s t ((record { item = item; entries = entries }) ∷ more)
    by (inl (read, none)) steps rest = lined_watched item items s next t entries more no_pending steps read none rest
    by (inr (received, frame)) steps rest = lined_frame item items s next t entries more no_pending steps received frame rest

-- just the watched events of items that are taken are published
pub taken_shows : (items : List Item) (replies : List Line) (start : SpeakerState) (t : ShownState) (told : List (Told ShownEntry))
    → AllByRecursion IsSided items → AreItemsTaken shown_rules items replies (unshown start) t told → t.board.published ≡ watch_events items
taken_shows items replies start t told sides taken = (lined items replies (unshown start) t told sides refl taken).published

pub watch_as_lines : (start : SpeakerState) → WatchIsAsLines start
watch_as_lines start first second items replies t told (firsts, seconds) taken =
    let answers = seconds.answered in
    let frames = answers_are_frames start answers.events 0 seconds.items (items_of Second items) answers.answered in
    let l = lined items replies (unshown start) t told (sided first items firsts frames) refl taken in
    record {
      lines = l.lines;
      events = l.events;
      taken = l.taken;
      published = l.published;
      view = l.view ∙ ap (λ (events : List Event). view_after_all start.view events) (sym l.published);
    }
