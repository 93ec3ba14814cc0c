-- How a run over lane files may end.
use Rattle.std.proofs.Common.{◌≡◌, ◌≢◌, ℕ, false, List, [], length, Option, Some, None, refl, sym, ◌∙◌, subst, inl, inr}
use Rattle.std.specs.Prelude.{nat_le}
use Rattle.std.proofs.lemmas.Bool.{true≢false}
use Rattle.kube_model.specs.declared.event.Event.{Event}
use Rattle.kube_model.specs.declared.object.Kind.{Kind}
use Rattle.kube_model.specs.declared.status.LaneName.{LaneName}
use Rattle.kube_model.specs.declared.status.What.{What}
use Rattle.kube_model.specs.declared.status.What.TheVariants as whats
use Rattle.kube_model.specs.declared.status.Status.{Status}
use Rattle.kube_model.specs.declared.status.Status.TheVariants as statuses
use Rattle.lane_drive.specs.Asking.{AsksMore, AsksOf}
use Rattle.lane_drive.specs.Clauses.{AtEnd, AtOpenFault, EndOf, OnlyWrites, WritesOf, unread}
use Rattle.lane_drive.specs.Files.{FilesState}
use Rattle.lane_drive.specs.LaneRules.{LaneRules}
use Rattle.lane_drive.specs.Sending.{Sending}
use Rattle.lane_drive.specs.Stops.{EndsBy, as_they_are, status_of_lane, status_of_lanes}
use Rattle.lane_mail.specs.declared.item.Item.{Item}
use Rattle.lane_mail.specs.declared.lane.Lane.{Lane}
use Rattle.lane_mail.specs.declared.lane.Lane.TheVariants.{First, Second}
use Rattle.lane_run.specs.declared.lane_end.LaneEnd.{LaneEnd}
use Rattle.lane_run.specs.declared.lane_end.LaneEnd.TheVariants.{Done, ReadFault, LineLimit, InputLimit, BadLine, NoMemory}
use Rattle.lane_run.specs.LaneInputs.{lane_input, lane_input_from}
use Rattle.lane_run.specs.Outside.{SourceState, Outside}
use Rattle.lane_run.specs.Watched.{Begins}
use Rattle.line_run.specs.declared.halt.Halt.{Halt}
use Rattle.line_run.specs.declared.halt.Halt.TheVariants as halts
use Rattle.line_run.specs.Ended.{status_of_halt}
use Rattle.line_run.specs.Machine.{Stops}
use Rattle.line_run.specs.Clauses.{CanPass}
use Rattle.line_run.proofs.Texts.{upto_none}
use Rattle.mlb_edge.specs.InputLines.{Whole, Follows-refl, to_come}
use Rattle.speaker_view.specs.View.{limit_by}
use Rattle.speaker_machine.specs.Causes.{limit_cause}
use Rattle.speaker_machine.specs.Lanes.{belongs_to, lane_rules, name_of}
use Rattle.speaker_machine.specs.Stream.{SpeakerState, Received, IsLimit, IsCause, frame_in, limit_step, step_by, what_of}
use Rattle.speaker_run.specs.LaneClauses.{CanEndLanes, IsLane}
use Rattle.speaker_run.specs.ResponderClauses.{answering}
use Rattle.speaker_run.specs.Responding.{ShownState, seen_in, shown_rules, shown_step_at, told_answer}
use Rattle.speaker_run.specs.ShownCauses.{answer_stops, stops_as}

is_lane : (lane : Lane) → IsLane (name_of lane)
is_lane First = inl refl
is_lane Second = inr refl

-- ---- at an item
can_pass : (what : What) (count : ℕ) → IsLimit what count → CanPass IsCause what count
can_pass whats.Line count none = absurd none
can_pass whats.Input count none = absurd none
can_pass whats.Services count is = is
can_pass whats.Nodes count is = is

limit_ends : (o : Option (Kind × ℕ)) (s : SpeakerState) (event : Event) (status : Status) → limit_by s.view event ≡ o → limit_step s event o ≡ Stops status
    → CanEndLanes status
limit_ends None s event status is e = absurd (cc)
limit_ends (Some p) s event status is e =
    let it : statuses.Limit (what_of p.0) p.1 ≡ status = cc in
    subst CanEndLanes it (can_pass (what_of p.0) p.1 (limit_cause (Some p) s event (statuses.Limit (what_of p.0) p.1) is refl).1)

halt_ends : (halt : Halt) → CanEndLanes (status_of_halt halt)
halt_ends halts.WriteFault = tt
halt_ends halts.NoMemory = tt

-- ---- as the lanes did
lane_ends : (lane : Lane) (end : LaneEnd) → CanEndLanes (status_of_lane (name_of lane) end)
lane_ends lane Done = tt
lane_ends lane ReadFault = is_lane lane
lane_ends lane (LineLimit number) = refl
lane_ends lane InputLimit = refl
lane_ends lane (BadLine number bytes) = is_lane lane
lane_ends lane NoMemory = tt

lanes_end : (first second : LaneEnd) → CanEndLanes (status_of_lanes name_of first second)
lanes_end Done second = lane_ends Second second
lanes_end ReadFault second = lane_ends First ReadFault
lanes_end (LineLimit number) second = lane_ends First (LineLimit number)
lanes_end InputLimit second = lane_ends First InputLimit
lanes_end (BadLine number bytes) second = lane_ends First (BadLine number bytes)
lanes_end NoMemory second = lane_ends First NoMemory

-- ---- of any rules that are so
-- No reply is awaited, and a run that stops at an item, or as its lanes did, ends in a way that it may.
pub record Plain {S E : Type 0} (rules : LaneRules S E) : Type 0 where
  pub quiet : (s : S) → rules.waits s ≡ false
  pub unheard : rules.hears ≡ false
  pub stops : (s : S) (item : Item) (status : Status) → rules.take s item ≡ Stops status → CanEndLanes status
  pub lanes : (end end' : LaneEnd) → CanEndLanes (status_of_lanes rules.name end end')

module _ {S E : Type 0} (sending : Sending) (rules : LaneRules S E) (plain : Plain rules) (start : S) where
  -- no reply is awaited, and the end of the input isn't either
  pub asks_never_of : (first second : SourceState) (before now : Outside) → AsksOf sending rules start first second before now → ⊥
  asks_never_of first second before now (inl (items, more)) = true≢false (sym more.waits ∙ plain.quiet more.state)
  asks_never_of first second before now (inr more) = true≢false (sym more.hears ∙ plain.unheard)

  ends_plain : (first first' second second' : SourceState) (before after : Outside) (status : Status)
      → EndsBy sending rules start first first' second second' before after status → CanEndLanes status
  ends_plain first first' second second' before after status (inl at) = elim at.stops [
    | inl stops ↦ plain.stops at.state at.item status stops.0
    | inr halts ↦ let (halt, is, more) = halts in subst CanEndLanes (sym is) (halt_ends halt)
  ]
  ends_plain first first' second second' before after status (inr (inl at)) = absurd (true≢false (sym at.waits ∙ plain.quiet at.state))
  ends_plain first first' second second' before after status (inr (inr (inl at))) = absurd (true≢false (sym at.hears ∙ plain.unheard))
  ends_plain first first' second second' before after status (inr (inr (inr (inl at)))) = subst CanEndLanes (sym at.is) (plain.lanes at.end at.end')
  ends_plain first first' second second' before after status (inr (inr (inr (inr (is, writes))))) = subst CanEndLanes (sym is) tt

  module _ (file file' : List ℕ) (files files' : FilesState) (first second input input' : SourceState) (before after : Option (List ℕ)) (k n : ℕ) where
    ends_by : (status : Status) → ((lane : LaneName) → status ≢ statuses.OpenFault lane)
        → EndOf sending rules start file file' files files' first second input input' before after k n status → CanEndLanes status
    ends_by status opened at =
        let it = at opened in
        ends_plain first it.first' second it.second' _ _ status it.ends

    -- how a run over lanes ends is a way that it may end
    pub can_end_of : (status : Status) → AtOpenFault name_of file file' status files files'
        → EndOf sending rules start file file' files files' first second input input' before after k n status → CanEndLanes status
    can_end_of (statuses.OpenFault lane) fails at = elim (fails.0 lane refl).0 [
      | inl failed ↦ inl failed.0
      | inr failed ↦ inr failed.0
    ]
    can_end_of statuses.Done fails at = ends_by statuses.Done (λ lane e. absurd (cc)) at
    can_end_of statuses.Usage fails at = ends_by statuses.Usage (λ lane e. absurd (cc)) at
    can_end_of (statuses.ReadFault lane) fails at = ends_by (statuses.ReadFault lane) (λ lane' e. absurd (cc)) at
    can_end_of statuses.WriteFault fails at = ends_by statuses.WriteFault (λ lane e. absurd (cc)) at
    can_end_of (statuses.BadLine lane number bytes) fails at = ends_by (statuses.BadLine lane number bytes) (λ lane' e. absurd (cc)) at
    can_end_of (statuses.BadReply number bytes) fails at = ends_by (statuses.BadReply number bytes) (λ lane e. absurd (cc)) at
    can_end_of (statuses.NoReply put) fails at = ends_by (statuses.NoReply put) (λ lane e. absurd (cc)) at
    can_end_of (statuses.Limit what count) fails at = ends_by (statuses.Limit what count) (λ lane e. absurd (cc)) at
    can_end_of statuses.NoMemory fails at = ends_by statuses.NoMemory (λ lane e. absurd (cc)) at

  -- ---- where nothing was begun
  pub writes_none_of : (first second replies before : Option (List ℕ)) → sending.Begins first second []
      → WritesOf sending rules start first second replies before before
  writes_none_of first second replies before begin = record {
    items = [];
    replies = [];
    next = to_come unread replies;
    comes = Follows-refl (to_come unread replies);
    begin = begin;
    state = start;
    told = [];
    taken = (refl, refl, refl);
    wrote = upto_none before [];
  }

  -- a run that wrote so much ends where memory ran out
  pub ends_short : (file file' : List ℕ) (files files' : FilesState) (first second input input' : SourceState) (before after : Option (List ℕ)) (k n : ℕ)
      → WritesOf sending rules start first.left second.left input.left before after
      → EndOf sending rules start file file' files files' first second input input' before after k n statuses.NoMemory
  ends_short file file' files files' first second input input' before after k n only opened = record {
    first' = first;
    second' = second;
    reading = unread;
    ends = inr (inr (inr (inr (refl, only))));
    kept = λ known. absurd (known refl);
  }

-- ---- of events as they are
lane_stops : (s : SpeakerState) (item : Item) (status : Status) → lane_rules.take s item ≡ Stops status → CanEndLanes status
lane_stops s item status e = limit_ends (limit_by s.view item.event) s item.event status refl e

pub lanes_plain : Plain lane_rules
lanes_plain = record { quiet = λ s. refl; unheard = refl; stops = lane_stops; lanes = lanes_end }

pub begins_none : (lane : Lane) (left : Option (List ℕ)) → Begins belongs_to lane left []
begins_none lane None = record { input = lane_input_from belongs_to lane [] Whole; is = ([], Whole, refl); begins = ([], refl) }
begins_none lane (Some bytes) = record { input = lane_input belongs_to lane bytes; is = refl; begins = ((lane_input belongs_to lane bytes).items, refl) }

lanes_none : (first second : Option (List ℕ)) → (as_they_are belongs_to).Begins first second []
lanes_none first second = record { firsts = begins_none First first; seconds = begins_none Second second }

module _ (start : SpeakerState) where
  pub asks_never : (first second : SourceState) (before now : Outside) → AsksMore belongs_to lane_rules start first second before now → ⊥
  asks_never = asks_never_of (as_they_are belongs_to) lane_rules lanes_plain start

  pub can_end : (file file' : List ℕ) (files files' : FilesState) (first second input input' : SourceState) (before after : Option (List ℕ)) (k n : ℕ)
      (status : Status) → AtOpenFault name_of file file' status files files'
      → AtEnd belongs_to lane_rules start file file' files files' first second input input' before after k n status → CanEndLanes status
  can_end = can_end_of (as_they_are belongs_to) lane_rules lanes_plain start

  pub writes_none : (first second replies before : Option (List ℕ)) → OnlyWrites belongs_to lane_rules start first second replies before before
  writes_none first second replies before =
      writes_none_of (as_they_are belongs_to) lane_rules lanes_plain start first second replies before (lanes_none first second)

  pub ends_none : (file file' : List ℕ) (files : FilesState) (first second input : SourceState) (before : Option (List ℕ)) (k : ℕ)
      → AtEnd belongs_to lane_rules start file file' files files first second input input before before k k statuses.NoMemory
  ends_none file file' files first second input before k =
      ends_short (as_they_are belongs_to) lane_rules lanes_plain start file file' files files first second input input before before k k
      (writes_none first.left second.left input.left before)

-- ---- of a speaker whose responder answers the frames
stops_at : (frame : Option Received) (s : ShownState) (event : Event) (status : Status) → shown_step_at frame s event ≡ Stops status → CanEndLanes status
stops_at None s event status e =
    limit_ends (limit_by s.speaker.view event) s.speaker event status refl (stops_as s event status (step_by s.speaker event) e)
stops_at (Some answered) s event status e =
    let is = answer_stops (nat_le (seen_in answered.frame) (length s.board.published)) s (told_answer s.speaker answered) status e in
    subst CanEndLanes (sym is) tt

shown_stops : (s : ShownState) (item : Item) (status : Status) → shown_rules.take s item ≡ Stops status → CanEndLanes status
shown_stops s item status e = stops_at (frame_in item.event) s item.event status e

pub shown_plain : Plain shown_rules
shown_plain = record { quiet = λ s. refl; unheard = refl; stops = shown_stops; lanes = lanes_end }

pub shown_none : (start : SpeakerState) (first second : Option (List ℕ)) → (answering start first).Begins first second []
shown_none start first second = (
  begins_none First first,
  record {
    items = [];
    begins = begins_none Second second;
    answered = record { events = []; shown = record { items = []; begins = begins_none First first; are = refl }; answered = tt };
  },
)
