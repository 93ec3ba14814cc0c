-- What a run with a responder sent and wrote, by what was published.
use Rattle.std.specs.Bool.{⊤}
use Rattle.std.proofs.Common.{◌≡◌, ℕ, ◌+◌, ◌≤◌, Bool, true, false, cond, List, [], ◌∷◌, ◌++◌, length, map, Option, Some, None}
use Rattle.std.proofs.Common.{refl, sym, ap, ◌∙◌, subst, arith, inl, inr, length-append}
use Rattle.std.proofs.lemmas.Bool.{true≢false, false≢true}
use Rattle.std.proofs.lemmas.List.{append-nil}
use Rattle.std.proofs.lemmas.List.Elements.{filter-append}
use Rattle.std.specs.List.{AllByRecursion}
use Rattle.std.specs.Option.{option_to_list}
use Rattle.std.specs.Prelude.{is_none}
use mathlib.Core.List.{IsPrefix}
use Rattle.shown_board.proofs.Replying.{prefix_through}
use Rattle.kube_model.specs.declared.event.Event.{Event}
use Rattle.lane_drive.proofs.Carried.{Carries}
use Rattle.lane_drive.proofs.ReadItems.{all_lanes, begins_read}
use Rattle.lane_drive.specs.Sending.{Sending, turned}
use Rattle.lane_mail.specs.Lanes.{is_lane, items_of}
use Rattle.lane_mail.specs.declared.item.Item.{Item}
use Rattle.lane_mail.specs.declared.lane.Lane.TheVariants.{First, Second}
use Rattle.lane_run.proofs.Turning.{begins_less, begins_unturned, ended_unturned, unturned}
use Rattle.lane_run.specs.Turned.{AreTurned, IsLeft}
use Rattle.lane_run.specs.Outside.{SourceState}
use Rattle.lane_run.specs.Watched.{Begins}
use Rattle.lane_run.specs.declared.lane_end.LaneEnd.{LaneEnd}
use Rattle.lane_run.specs.declared.lane_end.LaneEnd.TheVariants.{Done, ReadFault, LineLimit, InputLimit, BadLine, NoMemory}
use Rattle.mlb_base.proofs.Lists.{all-front}
use Rattle.shown_board.specs.Boarded.{Boarded}
use Rattle.speaker_machine.specs.Lanes.{belongs_to}
use Rattle.speaker_machine.specs.Stream.{SpeakerState, Received, frame_in}
use Rattle.speaker_run.proofs.Responded.{AreFrames, AreOf, answered_by, frames_begin, frames_sent, items_are_of, seen_later, turn_later}
use Rattle.speaker_run.proofs.RespondedLines.{sided, watched_sides}
use Rattle.speaker_run.proofs.ShownSteps.{IsSided, IsWatched, watched-append}
use Rattle.speaker_run.specs.ResponderClauses.{AreOfWatch, IsAnswered, answering}
use Rattle.speaker_run.specs.Responding.{Answering, AreAnswered, HasShown, Turns, watch_events}

-- ---- the two lanes
-- the watched lane sends its events as they are
abbrev pub Unchanged : ⊤ → ⊤ → Event → Event → Type 0
Unchanged s t event sent = sent ≡ event

-- the frame lane sends answers, from a first to a last state of who gives them
abbrev pub turned_by : Answering → Answering → Sending
turned_by v w = turned Unchanged Turns belongs_to tt tt v w

-- Nothing was seen yet, and it answers for the words' node by the view of nothing.
pub record Opens (start : SpeakerState) (v : Answering) : Type 0 where
  pub local : v.local ≡ start.local
  pub opening : v.opening ≡ start.view
  pub unseen : v.sight.seen ≡ []

-- frames come by the second lane, and no others
abbrev pub IsLaned : Item → Type 0
IsLaned item = is_none (frame_in item.event) ≡ is_lane First item.lane

watched_laned : (items : List Item) → AllByRecursion IsWatched items → AreOf First items → AllByRecursion IsLaned items
watched_laned [] all of = tt
watched_laned (item ∷ items) all of =
    (ap (λ (frame : Option Received). is_none frame) all.0.1 ∙ sym (ap (is_lane First) of.0), watched_laned items all.1 of.1)

frames_laned : (items : List Item) → AreFrames items → AreOf Second items → AllByRecursion IsLaned items
frames_laned [] all of = tt
frames_laned (item ∷ items) all of =
    (ap (λ (frame : Option Received). is_none frame) all.0.1 ∙ sym (ap (is_lane First) of.0), frames_laned items all.1 of.1)

pub laned : (first : Option (List ℕ)) (items : List Item) → Begins belongs_to First first (items_of First items) → AreFrames (items_of Second items)
    → AllByRecursion IsLaned items
laned first items firsts seconds =
    let watched = items_of First items in
    let of = items_are_of First items in
    all_lanes IsLaned items (watched_laned watched (watched_sides watched (begins_read belongs_to First first watched firsts) of) of)
    (frames_laned (items_of Second items) seconds (items_are_of Second items))

-- the events but the frames are those of the first lane
pub events_of_first : (items : List Item) → AllByRecursion IsLaned items → watch_events items ≡ map (λ item. item.event) (items_of First items)
events_of_first [] all = refl
events_of_first (item ∷ items) all = by (is_lane First item.lane) (is_none (frame_in item.event)) all.0 (events_of_first items all.1) where
  by : (b c : Bool) → c ≡ b → watch_events items ≡ map (λ item. item.event) (items_of First items)
      → cond c (item.event ∷ watch_events items) (watch_events items) ≡ map (λ item. item.event) (cond b (item ∷ items_of First items) (items_of First items))
  by true true same rest = ap (λ (events : List Event). item.event ∷ events) rest
  by true false same rest = absurd (false≢true same)
  by false true same rest = absurd (true≢false same)
  by false false same rest = rest

of_watch : (watched : Option (List ℕ)) (items : List Item) → Begins belongs_to First watched (items_of First items) → AllByRecursion IsLaned items
    → AreOfWatch watched (watch_events items)
of_watch watched items firsts all = record { items = items_of First items; begins = firsts; are = events_of_first items all }

-- ---- what was sent so far
module _ (first second : Option (List ℕ)) (v w : Answering) (items : List Item) (b : (turned_by v w).Begins first second items) where
  pub firsts_begin : Begins belongs_to First first (items_of First items)
  firsts_begin = begins_unturned belongs_to First first tt tt (items_of First items) b.firsts

  pub frames_turned : AreFrames b.seconds.items
  frames_turned = frames_begin second v b.seconds.state b.seconds.items (items_of Second items) b.seconds.begins b.seconds.turned (items_are_of Second items)

  pub seconds_frames : AreFrames (items_of Second items)
  seconds_frames = frames_sent v b.seconds.state b.seconds.items (items_of Second items) frames_turned b.seconds.turned

  pub seconds_later : IsPrefix b.seconds.state.sight.seen w.sight.seen
  seconds_later = seen_later b.seconds.state w b.seconds.leads.0 b.seconds.leads.1 b.seconds.leads.2

  pub items_sided : AllByRecursion IsSided items
  items_sided = sided first items firsts_begin seconds_frames

  pub items_laned : AllByRecursion IsLaned items
  items_laned = laned first items firsts_begin seconds_frames

-- ---- what is published
-- what is published after these items are the first events of the watched lane
pub published_of_watch : (first second : Option (List ℕ)) (v w : Answering) (board : Boarded Event) (driven : List Item) (refused : Option Item)
    → (turned_by v w).Begins first second (driven ++ option_to_list refused) → HasShown board driven refused → AreOfWatch first board.published
published_of_watch first second v w board driven refused b shown = by refused b shown where
  part : (rest : List Item) → (turned_by v w).Begins first second (driven ++ rest) → AreOfWatch first (watch_events driven)
  part rest b =
      let firsts = firsts_begin first second v w (driven ++ rest) b in
      let split : items_of First (driven ++ rest) ≡ items_of First driven ++ items_of First rest =
      filter-append (λ item. is_lane First item.lane) driven rest in
      of_watch first driven
      (begins_less belongs_to First first (items_of First (driven ++ rest)) (items_of First driven) (items_of First rest, split) firsts)
      (all-front IsLaned driven rest (items_laned first second v w (driven ++ rest) b))

  by : (refused : Option Item) → (turned_by v w).Begins first second (driven ++ option_to_list refused) → HasShown board driven refused
      → AreOfWatch first board.published
  by None b shown = subst (AreOfWatch first) (sym shown.0) (part [] b)
  by (Some item) b (inl shown) = subst (AreOfWatch first) (sym shown) (part (item ∷ []) b)
  by (Some item) b (inr shown) =
      let whole = driven ++ item ∷ [] in
      subst (AreOfWatch first) (sym shown) (of_watch first whole (firsts_begin first second v w whole b) (items_laned first second v w whole b))

-- and no fewer are than the items before the refused one have
pub published_long : (board : Boarded Event) (driven : List Item) (refused : Option Item) → HasShown board driven refused
    → length (watch_events driven) ≤ length board.published
published_long board driven None shown = omega (arith, ap length shown.0)
published_long board driven (Some item) (inl shown) = omega (arith, ap length shown)
published_long board driven (Some item) (inr shown) =
    let more : length (watch_events (driven ++ item ∷ [])) ≡ length (watch_events driven) + length (watch_events (item ∷ [])) =
    ap length (watched-append driven (item ∷ [])) ∙ length-append (watch_events driven) (watch_events (item ∷ [])) in
    omega (arith, ap length shown, more)

-- ---- where what was seen begins what is published
left_later : (state w : Answering) (end : LaneEnd) → IsLeft Turns state w end → IsPrefix state.sight.seen w.sight.seen
left_later state w Done same = rw same ([], append-nil state.sight.seen)
left_later state w ReadFault same = rw same ([], append-nil state.sight.seen)
left_later state w (LineLimit number) same = rw same ([], append-nil state.sight.seen)
left_later state w InputLimit same = rw same ([], append-nil state.sight.seen)
left_later state w (BadLine number bytes) same = rw same ([], append-nil state.sight.seen)
left_later state w NoMemory (inl same) = rw same ([], append-nil state.sight.seen)
left_later state w NoMemory (inr (item, one, turns)) = turn_later (frame_in item.event) state w item.event one.event turns.2

module _ (start : SpeakerState) (watched : Option (List ℕ)) (v w : Answering) (opens : Opens start v) (events : List Event)
    (shown : AreOfWatch watched events) where
  pub answered_from : (items sent : List Item) → AreAnswered start events (length v.sight.seen) items sent → IsAnswered start watched items sent
  answered_from items sent answered = record {
    events = events;
    shown = shown;
    answered = subst (λ (seen : List Event). AreAnswered start events (length seen) items sent) opens.unseen answered;
  }

  module _ (begin : IsPrefix w.sight.seen events) where
    answered_to : (second : Option (List ℕ)) (state : Answering) (items sent : List Item) → Begins belongs_to Second second items
        → AreTurned Turns v state items (items_of Second sent) → IsPrefix state.sight.seen w.sight.seen → IsAnswered start watched items (items_of Second sent)
    answered_to second state items sent begins turned later =
        answered_from items (items_of Second sent)
        (answered_by start events v state items (items_of Second sent) opens.local opens.opening
        (frames_begin second v state items (items_of Second sent) begins turned (items_are_of Second sent)) turned
        (prefix_through state.sight.seen w.sight.seen events later begin))

    ended_shown : (first first' second second' : SourceState) (sent : List Item) (end end' : LaneEnd)
        → (turned_by v w).Ended first first' second second' sent end end' → (answering start watched).Ended first first' second second' sent end end'
    ended_shown first first' second second' sent end end' lanes =
        let e = lanes.second_ended in
        record {
          first_ended = ended_unturned belongs_to First first first' tt tt (items_of First sent) end lanes.first_ended;
          second_ended = record {
            items = e.items;
            ended = e.ended;
            answered = answered_to second.left e.state e.items sent e.ended.begins e.turned (left_later e.state w end' e.left);
          };
          merge = lanes.merge;
        }

    begins_shown : (first second : Option (List ℕ)) (items : List Item) → (turned_by v w).Begins first second items
        → (answering start watched).Begins first second items
    begins_shown first second items b =
        let s = b.seconds in (
          firsts_begin first second v w items b,
          record {
            items = s.items;
            begins = s.begins;
            answered = answered_to second s.state s.items items s.begins s.turned (seconds_later first second v w items b);
          },
        )

    firsts_shown : (left : Option (List ℕ)) (items : List Item) → (turned_by v w).Firsts left (items_of First items)
        → (answering start watched).Firsts left (items_of First items)
    firsts_shown left items s = rw (unturned tt tt s.items (items_of First items) s.turned) s.stops

    seconds_shown : (left : Option (List ℕ)) (items : List Item) → (turned_by v w).Seconds left (items_of Second items)
        → (answering start watched).Seconds left (items_of Second items)
    seconds_shown left items s = record {
      items = s.items;
      stops = s.stops;
      answered = answered_to left w s.items items
          (record { input = record { items = s.items; end = Done }; is = s.stops; begins = ([], sym (append-nil s.items)) }) s.turned
          ([], append-nil w.sight.seen);
    }

    -- so all that was sent are the answers by what was published
    pub shown_carries : Carries (turned_by v w) (answering start watched)
    shown_carries = record { ended = ended_shown; begins = begins_shown; firsts = firsts_shown; seconds = seconds_shown }
