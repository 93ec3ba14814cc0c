-- What the answers of a responder are, once it is known what was published.
use Rattle.std.proofs.Common.{◌≡◌, ℕ, ◌+◌, ◌≤◌, Bool, true, false, cond, List, [], ◌∷◌, ◌++◌, length, take, drop, Option, Some, None, is_some}
use Rattle.std.proofs.Common.{refl, sym, ap, ◌∙◌, subst, arith}
use Rattle.std.proofs.Math.Seq.{drop-append-add, take-append_seam}
use Rattle.std.proofs.lemmas.Bool.{true≢false}
use Rattle.std.proofs.lemmas.List.{append-nil}
use Rattle.std.proofs.lemmas.Nat.{from_be_bytes-to_be_bytes_8}
use Rattle.std.specs.Int.{w64, from_be_bytes, to_be_bytes}
use Rattle.std.specs.List.{AllByRecursion}
use mathlib.Core.List.{IsPrefix}
use Rattle.growing_list.proofs.Beginnings.{prefix_shorter}
use Rattle.shown_board.proofs.Replying.{prefix_long, prefix_taken, prefix_through}
use Rattle.kube_model.specs.declared.event.Event.{Event}
use Rattle.lane_drive.proofs.ReadItems.{begins_read}
use Rattle.lane_drive.specs.Laws.{IsRead}
use Rattle.lane_mail.specs.Lanes.{is_lane, items_of}
use Rattle.lane_mail.specs.declared.item.Item.{Item}
use Rattle.lane_mail.specs.declared.lane.Lane.{Lane}
use Rattle.lane_mail.specs.declared.lane.Lane.TheVariants.{First, Second}
use Rattle.lane_run.specs.Turned.{AreTurned}
use Rattle.lane_run.specs.Watched.{Begins}
use Rattle.speaker_machine.specs.Lanes.{belongs_to}
use Rattle.speaker_machine.specs.Stream.{SpeakerState, Received, frame_in}
use Rattle.speaker_run.proofs.ShownSteps.{IsFrame}
use Rattle.speaker_run.specs.ResponderClauses.{AnswersAreTold}
use Rattle.speaker_run.specs.Responding.{Answering, Answers, AreAnswered, Turns, TurnsInto, answer_octets, seen_in}

-- ---- octets
-- what is read of an answer's octets is what was put in
pub answers_told : AnswersAreTold
answers_told seen answer fits =
    let number = to_be_bytes w64 seen in
    let long : length number ≡ 8 = refl in (
      ap (λ (n : ℕ). from_be_bytes w64 (take n (number ++ answer))) (sym long)
          ∙ ap (λ (octets : List ℕ). from_be_bytes w64 octets) (take-append_seam number answer)
          ∙ from_be_bytes-to_be_bytes_8 seen fits,
      ap (λ (n : ℕ). drop (n + 0) (number ++ answer)) (sym long) ∙ drop-append-add number answer 0,
    )

-- ---- the frames
abbrev pub AreFrames : List Item → Type 0
AreFrames items = AllByRecursion IsFrame items

abbrev pub AreOf : Lane → List Item → Type 0
AreOf lane items = AllByRecursion (λ item. item.lane ≡ lane) items

lane_is : (lane other : Lane) → is_lane lane other ≡ true → other ≡ lane
lane_is First First e = refl
lane_is First Second e = absurd (true≢false (sym e))
lane_is Second First e = absurd (true≢false (sym e))
lane_is Second Second e = refl

pub items_are_of : (lane : Lane) (items : List Item) → AreOf lane (items_of lane items)
items_are_of lane [] = tt
items_are_of lane (item ∷ items) = by (is_lane lane item.lane) refl (items_are_of lane items) where
  by : (b : Bool) → is_lane lane item.lane ≡ b → AreOf lane (items_of lane items) → AreOf lane (cond b (item ∷ items_of lane items) (items_of lane items))
  by true e rest = (lane_is lane item.lane e, rest)
  by false e rest = rest

-- the lane of what is sent is that of what it is sent for
lanes_stay : (lane : Lane) (v w : Answering) (items sent : List Item) → AreTurned Turns v w items sent → AreOf lane sent → AreOf lane items
lanes_stay lane v w [] [] turned all = tt
lanes_stay lane v w [] (one ∷ sent) turned all = absurd turned
lanes_stay lane v w (item ∷ items) [] turned all = absurd turned
lanes_stay lane v w (item ∷ items) (one ∷ sent) (next, (same, number, turns), rest) all = (sym same ∙ all.0, lanes_stay lane next w items sent rest all.1)

some_there : {A : Type 0} (o : Option A) → is_some o ≡ true → (a : A) × (o ≡ Some a)
some_there None e = absurd (true≢false (sym e))
some_there (Some a) e = (a, refl)

read_frames : (items : List Item) → AllByRecursion (IsRead belongs_to) items → AreOf Second items → AreFrames items
read_frames [] all of = tt
read_frames (item ∷ items) all of =
    let fits : belongs_to Second item.event ≡ true = subst (λ (lane : Lane). belongs_to lane item.event ≡ true) of.0 all.0.fits in
    (some_there (frame_in item.event) fits, read_frames items all.1 of.1)

-- what comes by the frame lane, and is turned, are frames
pub frames_begin : (left : Option (List ℕ)) (v w : Answering) (items sent : List Item) → Begins belongs_to Second left items → AreTurned Turns v w items sent
    → AreOf Second sent → AreFrames items
frames_begin left v w items sent begins turned of =
    read_frames items (begins_read belongs_to Second left items begins) (lanes_stay Second v w items sent turned of)

-- ---- what is seen
answers_at : (v next : Answering) (event sent : Event) (received : Received) → frame_in event ≡ Some received → Turns v next event sent
    → Answers v next received sent
answers_at v next event sent received is turns = subst (λ (o : Option Received). TurnsInto o v next event sent) is turns

pub turn_later : (frame : Option Received) (v next : Answering) (event sent : Event) → TurnsInto frame v next event sent
    → IsPrefix v.sight.seen next.sight.seen
turn_later (Some received) v next event sent a = a.later.0
turn_later None v next event sent (same, is) = rw same ([], append-nil v.sight.seen)

-- what is sent for frames are frames
pub frames_sent : (v w : Answering) (items sent : List Item) → AreFrames items → AreTurned Turns v w items sent → AreFrames sent
frames_sent v w [] [] frames turned = tt
frames_sent v w [] (one ∷ sent) frames turned = absurd turned
frames_sent v w (item ∷ items) [] frames turned = absurd turned
frames_sent v w (item ∷ items) (one ∷ sent) frames (next, (lane, number, turns), rest) =
    let a = answers_at v next item.event one.event frames.0.0 frames.0.1 turns in
    ((_, ap frame_in a.is), frames_sent next w items sent frames.1 rest)

-- what is seen begins all that is seen later
pub seen_later : (v w : Answering) (items sent : List Item) → AreTurned Turns v w items sent → IsPrefix v.sight.seen w.sight.seen
seen_later v w [] [] same = rw same ([], append-nil v.sight.seen)
seen_later v w [] (one ∷ sent) turned = absurd turned
seen_later v w (item ∷ items) [] turned = absurd turned
seen_later v w (item ∷ items) (one ∷ sent) (next, (lane, number, turns), rest) =
    prefix_through v.sight.seen next.sight.seen w.sight.seen (turn_later (frame_in item.event) v next item.event one.event turns)
    (seen_later next w items sent rest)

-- ---- what was answered
-- the item says that its frame was answered by so many events
abbrev pub SaysSeen : Item → ℕ → Type 0
SaysSeen one seen = (answered : Received) × (frame_in one.event ≡ Some answered) × (seen_in answered.frame ≡ seen)

-- what begins the events that were seen last, and is as long as the item says, begins these events
abbrev IsOf : (events last : List Event) → Item → Type 0
IsOf events last one = (seen : List Event) → IsPrefix seen last → SaysSeen one (length seen) → IsPrefix seen events

-- the frame was answered by so many events at most
abbrev pub IsSeenUpTo : ℕ → Item → Type 0
IsSeenUpTo most one = (answered : Received) → frame_in one.event ≡ Some answered → seen_in answered.frame ≤ most

module _ (start : SpeakerState) (events last : List Event) where
  answered_of : (v w : Answering) (items sent : List Item) → v.local ≡ start.local → v.opening ≡ start.view → AreFrames items → AreTurned Turns v w items sent
      → IsPrefix w.sight.seen last → AllByRecursion (IsOf events last) sent → AreAnswered start events (length v.sight.seen) items sent
  answered_of v w [] [] local opening frames turned begin all = tt
  answered_of v w [] (one ∷ sent) local opening frames turned begin all = absurd turned
  answered_of v w (item ∷ items) [] local opening frames turned begin all = absurd turned
  answered_of v w (item ∷ items) (one ∷ sent) local opening frames (next, (lane, number, turns), rest) begin all =
      let a = answers_at v next item.event one.event frames.0.0 frames.0.1 turns in
      let seen = next.sight.seen in
      let octets = answer_octets (length seen) a.answer in
      let says : SaysSeen one (length seen) =
      (record { interface = frames.0.0.interface; frame = octets }, ap frame_in a.is, (answers_told (length seen) a.answer a.fits).0) in
      let late : IsPrefix seen last = prefix_through seen w.sight.seen last (seen_later next w items sent rest) begin in
      let whole : IsPrefix seen events = all.0 seen late says in
      let taken : take (length seen) events ≡ seen = prefix_taken seen events whole in (
        length seen,
        record {
          received = frames.0.0;
          read = frames.0.1;
          later = prefix_long v.sight.seen seen a.later.0;
          few = prefix_long seen events whole;
          answer = a.answer;
          answered = rw (taken, sym opening, sym local) a.answered;
          fits = a.fits;
          lane = lane;
          number = number;
          is = a.is;
        },
        answered_of next w items sent (a.same.0 ∙ local) (a.same.1 ∙ opening) frames.1 rest begin all.1,
      )

  -- where these events begin what was seen last, and no item says more, each answer is by first ones of them
  pub answered_up_to : (v w : Answering) (items sent : List Item) → v.local ≡ start.local → v.opening ≡ start.view → AreFrames items
      → AreTurned Turns v w items sent → IsPrefix w.sight.seen last → IsPrefix events last → AllByRecursion (IsSeenUpTo (length events)) sent
      → AreAnswered start events (length v.sight.seen) items sent
  answered_up_to v w items sent local opening frames turned begin front few =
      answered_of v w items sent local opening frames turned begin (each sent few)
    where
      each : (sent : List Item) → AllByRecursion (IsSeenUpTo (length events)) sent → AllByRecursion (IsOf events last) sent
      each [] few = tt
      each (one ∷ sent) few = (
        λ seen begins says. prefix_shorter seen events last begins front (omega (arith, says.2, few.0 says.0 says.1)),
        each sent few.1,
      )

-- and so it is where what was seen last begins these events
pub answered_by : (start : SpeakerState) (events : List Event) (v w : Answering) (items sent : List Item) → v.local ≡ start.local → v.opening ≡ start.view
    → AreFrames items → AreTurned Turns v w items sent → IsPrefix w.sight.seen events → AreAnswered start events (length v.sight.seen) items sent
answered_by start events v w items sent local opening frames turned whole =
    answered_of start events events v w items sent local opening frames turned whole (each sent)
  where
    each : (sent : List Item) → AllByRecursion (IsOf events events) sent
    each [] = tt
    each (one ∷ sent) = (λ seen begins says. begins, each sent)
