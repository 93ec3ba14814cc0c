-- What the items of both lanes are to a speaker whose responder answers the frames.
use Rattle.std.proofs.Common.{◌≡◌, ◌⊎◌, ◌≤◌, Bool, true, false, List, [], ◌∷◌, ◌++◌, length, map, Option, Some, None}
use Rattle.std.proofs.Common.{refl, sym, ap, ◌∙◌, arith}
use Rattle.std.proofs.lemmas.Bool.Decides.{nat_tests}
use Rattle.std.proofs.lemmas.List.{map-append}
use Rattle.std.proofs.lemmas.List.Elements.{filter-append}
use Rattle.std.specs.Prelude.{filter, if◌then◌else◌, is_none, nat_le}
use Rattle.kube_model.specs.declared.event.Event.{Event}
use Rattle.kube_model.specs.declared.status.Status.TheVariants.{NoMemory}
use Rattle.lane_drive.specs.Laws.{IsRead}
use Rattle.lane_mail.specs.declared.item.Item.{Item}
use Rattle.line_run.specs.Machine.{Transition, Goes, Stops}
use Rattle.shown_board.specs.Boarded.{Boarded}
use Rattle.speaker_machine.specs.Lanes.{belongs_to}
use Rattle.speaker_machine.specs.Stream.{SpeakerState, Received, frame_in, step_by}
use Rattle.speaker_machine.specs.declared.transcript.TranscriptEntry.{TranscriptEntry as SpeakerEntry}
use Rattle.speaker_run.specs.Responding.{ShownEntry, ShownState, Tells, published_step, seen_in, shown_of, shown_step, shown_step_at, told_answer}
use Rattle.speaker_run.specs.Responding.{watch_events, with_published}

-- ---- the two sides
-- the item is a frame
abbrev pub IsFrame : Item → Type 0
IsFrame item = (received : Received) × (frame_in item.event ≡ Some received)

-- it is an event of a line, and no frame
abbrev pub IsWatched : Item → Type 0
IsWatched item = IsRead belongs_to item × (frame_in item.event ≡ None)

abbrev pub IsSided : Item → Type 0
IsSided item = IsWatched item ⊎ IsFrame item

-- the events of the items but the frames
pub watched_first : (item : Item) (items : List Item) → frame_in item.event ≡ None → watch_events (item ∷ items) ≡ item.event ∷ watch_events items
watched_first item items none = rw none refl

pub frame_first : (item : Item) (items : List Item) (received : Received) → frame_in item.event ≡ Some received
    → watch_events (item ∷ items) ≡ watch_events items
frame_first item items received is = rw is refl

pub watched-append : (items more : List Item) → watch_events (items ++ more) ≡ watch_events items ++ watch_events more
watched-append items more =
    ap (λ (events : List Event). filter (λ event. is_none (frame_in event)) events) (map-append (λ item. item.event) items more)
    ∙ filter-append (λ event. is_none (frame_in event)) (map (λ item. item.event) items) (map (λ item. item.event) more)

-- ---- a step
-- A watched event is applied and published.
pub record Published (s next : ShownState) (event : Event) (entries : List ShownEntry) : Type 0 where
  pub told : List SpeakerEntry
  pub steps : step_by s.speaker event ≡ Goes next.speaker told
  pub board : next.board ≡ with_published s.board event
  pub are : entries ≡ map Tells told

published_at : (s next : ShownState) (event : Event) (entries : List ShownEntry) (step : Transition SpeakerState SpeakerEntry) → step_by s.speaker event ≡ step
    → published_step s event step ≡ Goes next entries → Published s next event entries
published_at s next event entries (Stops status) is e = absurd (cc)
published_at s next event entries (Goes speaker told) is e =
    let state : shown_of speaker (with_published s.board event) ≡ next = cc in
    let text : map Tells told ≡ entries = cc in
    record {
      told = told;
      steps = is ∙ ap (λ (t : ShownState). Goes t.speaker told) state;
      board = sym (ap (λ (t : ShownState). t.board) state);
      are = sym text;
    }

pub watched_step : (s next : ShownState) (item : Item) (entries : List ShownEntry) → frame_in item.event ≡ None → shown_step s item ≡ Goes next entries
    → Published s next item.event entries
watched_step s next item entries none e =
    published_at s next item.event entries (step_by s.speaker item.event) refl
    (ap (λ (frame : Option Received). shown_step_at frame s item.event) (sym none) ∙ e)

-- A frame's answer changes nothing, and was given by no more events than are published.
pub record Answered (s next : ShownState) (answered : Received) (entries : List ShownEntry) : Type 0 where
  pub same : next ≡ s
  pub few : seen_in answered.frame ≤ length s.board.published
  pub are : entries ≡ told_answer s.speaker answered

answered_at : (few : Bool) (s next : ShownState) (answered : Received) (entries : List ShownEntry)
    → nat_le (seen_in answered.frame) (length s.board.published) ≡ few
    → (if few then Goes s (told_answer s.speaker answered) else Stops NoMemory) ≡ Goes next entries → Answered s next answered entries
answered_at false s next answered entries is e = absurd (cc)
answered_at true s next answered entries is e =
    let le : seen_in answered.frame ≤ length s.board.published = grind (arith, nat_tests) in
    record { same = (let state : s ≡ next = cc in sym state); few = le; are = (let text : told_answer s.speaker answered ≡ entries = cc in sym text) }

pub frame_step : (s next : ShownState) (item : Item) (entries : List ShownEntry) (answered : Received) → frame_in item.event ≡ Some answered
    → shown_step s item ≡ Goes next entries → Answered s next answered entries
frame_step s next item entries answered is e =
    answered_at (nat_le (seen_in answered.frame) (length s.board.published)) s next answered entries refl
    (ap (λ (frame : Option Received). shown_step_at frame s item.event) (sym is) ∙ e)

-- ---- what is published after a step
one_published : (published pending : List Event) (event : Event) (events : List Event) → pending ≡ []
    → (published ++ pending ++ event ∷ []) ++ events ≡ published ++ event ∷ events
one_published published (x ∷ pending) event events none = absurd (cc)
one_published [] [] event events none = refl
one_published (x ∷ published) [] event events none = ap (λ (l : List Event). x ∷ l) (one_published published [] event events none)

pub shows_watched : (s next : ShownState) (item : Item) (items : List Item) → frame_in item.event ≡ None → s.board.pending ≡ []
    → next.board ≡ with_published s.board item.event → next.board.published ++ watch_events items ≡ s.board.published ++ watch_events (item ∷ items)
shows_watched s next item items none no_pending board =
    ap (λ (b : Boarded Event). b.published ++ watch_events items) board
    ∙ one_published s.board.published s.board.pending item.event (watch_events items) no_pending
    ∙ ap (λ (events : List Event). s.board.published ++ events) (sym (watched_first item items none))
