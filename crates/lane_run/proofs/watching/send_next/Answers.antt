use Rattle.std.proofs.Common.{◌≡◌, ◌≤◌, ◌<◌, ◌^◌, ℕ, Bool, false, List, ◌∷◌, [], Option, Err, inl, inr, refl, ap, not, arith, IsErrOf}
use Rattle.kube_model.specs.declared.event.Event.{Event}
use Rattle.lane_mail.specs.declared.lane.Lane.{Lane}
use Rattle.mlb_edge.specs.Causes.{Rose}
use Rattle.mlb_edge.specs.declared.lines.Line.{Line}
use Rattle.mlb_edge.specs.declared.lines.LineEnd.{LineEnd}
use Rattle.mlb_edge.specs.declared.lines.LineEnd.TheVariants as reader
use Rattle.mlb_edge.specs.InputLines.{Input, LongLine, LongInput, Follows, EndsAs, to_come}
use Rattle.mlb_edge.specs.Rows.{HasNoNewline}
use Rattle.lane_run.specs.declared.lane_end.LaneEnd.{LaneEnd}
use Rattle.lane_run.specs.LaneInputs.{end_of}
use Rattle.lane_run.specs.Steps.{IsUnsent, EndsAt}
use Rattle.lane_run.specs.Turned.{IsLeft}
use Rattle.lane_run.proofs.watching.send_next.Goals as goal

-- the lane ends as its reader does
ends_unread : {T : Type 0} (belongs : Lane → Event → Bool) (lane : Lane) (now next : Option Input) (held : List ℕ) (left : Option (List ℕ))
    (before after : ℕ) (unfailing : Bool) (end : LineEnd) → ((number : ℕ) → end ≡ reader.LineLimit number → EndsAs now (LongLine number))
    → (IsErrOf {T = T} (Err end) reader.InputLimit → EndsAs now LongInput) → (IsErrOf {T = T} (Err end) reader.ReadFault → Rose before after)
    → (IsErrOf {T = T} (Err end) reader.ReadFault → HasNoNewline held) → (IsErrOf {T = T} (Err end) reader.ReadFault → unfailing ≡ false) → Follows now [] next
    → EndsAt belongs lane now next held left before after unfailing (end_of end)
ends_unread belongs lane now next held left before after unfailing reader.ReadFault long far rose waits unsafe same = (same, waits refl, rose refl, unsafe refl)
ends_unread belongs lane now next held left before after unfailing (reader.LineLimit number) long far rose waits unsafe same = long number refl
ends_unread belongs lane now next held left before after unfailing reader.InputLimit long far rose waits unsafe same = far refl
ends_unread belongs lane now next held left before after unfailing reader.NoMemory long far rose waits unsafe same = tt

left_unread : {S : Type 0} (Turns : S → S → Event → Event → Type 0) (s : S) (end : LineEnd) → IsLeft Turns s s (end_of end)
left_unread Turns s reader.ReadFault = refl
left_unread Turns s (reader.LineLimit number) = refl
left_unread Turns s reader.InputLimit = refl
left_unread Turns s reader.NoMemory = inl refl

-- the lane ends at a line that is none of its items
ends_unsent : (belongs : Lane → Event → Bool) (lane : Lane) (now next : Option Input) (held : List ℕ) (left : Option (List ℕ)) (before after : ℕ) (unfailing : Bool)
    (line : Line) (end : LaneEnd) → Follows now (line ∷ []) next → IsUnsent belongs lane line end
    → EndsAt belongs lane now next held left before after unfailing end
ends_unsent belongs lane now next held left before after unfailing line end comes (inl wants) = rw wants tt
ends_unsent belongs lane now next held left before after unfailing line end comes (inr (none, is)) =
    rw is (record { line = line; comes = comes; none = none; number_is = refl; bytes_are = refl })

left_unsent : {S : Type 0} (Turns : S → S → Event → Event → Type 0) (s : S) (belongs : Lane → Event → Bool) (lane : Lane) (line : Line) (end : LaneEnd)
    → IsUnsent belongs lane line end → IsLeft Turns s s end
left_unsent Turns s belongs lane line end (inl wants) = rw wants (inl refl)
left_unsent Turns s belongs lane line end (inr (none, is)) = rw is refl

pub returns-in-Ok-None : goal.returns-in-Ok-None
returns-in-Ok-None g c = record {
  sends = tt;
  ends = (rw c.in-Ok-None.field-0-is at c.in-Ok-None.ensures.end, (rw c.in-Ok-None.field-0-is at c.in-Ok-None.ensures.at_end).1);
  unsent = refl;
  left = refl;
  passes = c.next_line.ensures.passes;
  near = tt;
  later = c.next_line.ensures.later;
  name = c.next_line.ensures.name;
  unfailing = c.next_line.ensures.unfailing;
}

pub returns-in-Err : goal.returns-in-Err
returns-in-Err g c = record {
  sends = tt;
  ends = rw c.end_of.ensures (ends_unread g.L.Lanes.belongs c.args.lane
      (to_come c.args.reader.now (g.S.Source.left c.args.source.now)) (to_come c.next_line.new.self (g.S.Source.left c.next_line.new.source))
      c.next_line.new.self.held (g.S.Source.left c.next_line.new.source)
      (g.S.Source.faults c.args.source.now) (g.S.Source.faults c.next_line.new.source) (g.S.Source.unfailing c.args.source.now) c.in-Err.end
      c.in-Err.ensures.line_limit (rw c.in-Err.is at c.next_line.ensures.input_limit) (rw c.in-Err.is at c.next_line.ensures.read_fault)
      (rw c.in-Err.is at c.next_line.ensures.waits) (rw c.in-Err.is at c.next_line.ensures.unsafe_read) c.in-Err.ensures.err);
  unsent = refl;
  left = rw c.end_of.ensures (left_unread g.T.Turner.Turns (g.T.Turner.state c.args.turner.now) c.in-Err.end);
  passes = c.next_line.ensures.passes;
  near = tt;
  later = c.next_line.ensures.later;
  name = c.next_line.ensures.name;
  unfailing = c.next_line.ensures.unfailing;
}

pub returns-in-Err-item_of_line : goal.returns-in-Err-item_of_line
returns-in-Err-item_of_line g c = record {
  sends = tt;
  ends = ends_unsent g.L.Lanes.belongs c.args.lane
      (to_come c.args.reader.now (g.S.Source.left c.args.source.now)) (to_come c.next_line.new.self (g.S.Source.left c.next_line.new.source))
      c.next_line.new.self.held (g.S.Source.left c.next_line.new.source)
      (g.S.Source.faults c.args.source.now) (g.S.Source.faults c.next_line.new.source) (g.S.Source.unfailing c.args.source.now) c.in-Ok-Some.line
      c.in-Err-item_of_line.end (rw c.in-Ok-Some.field-0-is at c.in-Ok-Some.ensures.line) c.in-Err-item_of_line.ensures.err;
  unsent = refl;
  left = left_unsent g.T.Turner.Turns (g.T.Turner.state c.args.turner.now) g.L.Lanes.belongs c.args.lane c.in-Ok-Some.line
      c.in-Err-item_of_line.end c.in-Err-item_of_line.ensures.err;
  passes = c.next_line.ensures.passes;
  near = tt;
  later = c.next_line.ensures.later;
  name = c.next_line.ensures.name;
  unfailing = c.next_line.ensures.unfailing;
}

pub returns-in-Err-turn_item : goal.returns-in-Err-turn_item
returns-in-Err-turn_item g c = record {
  sends = tt;
  ends = rw c.in-Err-turn_item.ensures.err tt;
  unsent = refl;
  left = rw c.in-Err-turn_item.ensures.err (inl c.in-Err-turn_item.ensures.same);
  passes = c.next_line.ensures.passes;
  near = tt;
  later = c.next_line.ensures.later;
  name = c.next_line.ensures.name;
  unfailing = c.next_line.ensures.unfailing;
}

pub put_item-requires-clause-room : goal.put_item-requires-clause-room
put_item-requires-clause-room g c =
    let near : (c.args.reader.now.passed < c.next_line.new.self.passed) × (c.next_line.new.self.passed ≤ 2 ^ 40) =
    rw c.in-Ok-Some.field-0-is at c.in-Ok-Some.ensures.near in
    omega (arith, near.0, near.1, c.requires.room)

pub returns-then-put_item : goal.returns-then-put_item
returns-then-put_item g c = record {
  sends = record {
    line = c.in-Ok-Some.line;
    item = c.in-Ok.item;
    comes = rw c.in-Ok-Some.field-0-is at c.in-Ok-Some.ensures.line;
    is = c.in-Ok.ensures.ok;
    one = c.in-Ok-turn_item.sent;
    turned = c.in-Ok-turn_item.ensures.ok;
    sent = c.put_item.ensures.sent c.if-put_item.true;
  };
  ends = tt;
  unsent = tt;
  left = tt;
  passes = c.next_line.ensures.passes;
  near = rw c.in-Ok-Some.field-0-is at c.in-Ok-Some.ensures.near;
  later = c.next_line.ensures.later;
  name = c.next_line.ensures.name;
  unfailing = c.next_line.ensures.unfailing;
}

pub returns-else-put_item : goal.returns-else-put_item
returns-else-put_item g c = record {
  sends = tt;
  ends = tt;
  unsent = c.put_item.ensures.unsent (ap not c.if-put_item.false);
  left = inr (c.in-Ok.item, c.in-Ok-turn_item.sent, c.in-Ok-turn_item.ensures.ok);
  passes = c.next_line.ensures.passes;
  near = tt;
  later = c.next_line.ensures.later;
  name = c.next_line.ensures.name;
  unfailing = c.next_line.ensures.unfailing;
}
