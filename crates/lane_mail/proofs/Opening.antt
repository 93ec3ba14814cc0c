-- What the passes of a new mail know.
use Rattle.std.proofs.Common.{◌≡◌, [], length, None, sym, ap, ◌∙◌, arith}
use Rattle.atomic_table.specs.Seated.{TableId}
use Rattle.crossbeam_queue.specs.Passes.{view}
use Rattle.crossbeam_queue.specs.SegTies.{IsSegPassOf}
use Rattle.lane_mail.specs.declared.lane.Lane.{Lane}
use Rattle.lane_mail.specs.declared.lane.Lane.TheVariants.{First, Second}
use Rattle.lane_mail.specs.declared.item.Item.{Item}
use Rattle.lane_mail.specs.declared.mark.Mark.{Mark}
use Rattle.lane_mail.specs.declared.hand.Hand.{Hand}
use Rattle.lane_mail.specs.Lanes.{of_lane, mark_lane, items_of}
use Rattle.lane_mail.specs.Hands.{opening, sender, without, taker}
use Rattle.lane_mail.specs.Values.{QueueId, MailId, LaneReceiver}
use Rattle.lane_mail.specs.Inside.{ItemPass, MarkPass, hand_of, queue_of, IsLane, IsLaneInbox, IsInbox}

-- the passes are of this mail
pub of_mail : (q r : QueueId) (table t : TableId) (items beside : ItemPass) → IsSegPassOf q items → IsSegPassOf r beside → t ≡ table
    → ◌≡◌ {A = MailId} (record { first = queue_of items; second = queue_of beside; table = t }) (record { first = q; second = r; table = table })
of_mail q r table t items beside of of' same = λ i. record {
  first = record { web = of.0.0 i; heap = of.0.1 i };
  second = record { web = of'.0.0 i; heap = of'.0.1 i };
  table = same i;
}

-- and so are those of the inboxes that have these
pub inboxes_of_mail : (q r : QueueId) (table t : TableId) (x y : QueueId) (items beside : ItemPass) → x ≡ queue_of items → y ≡ queue_of beside
    → IsSegPassOf q items → IsSegPassOf r beside → t ≡ table
    → ◌≡◌ {A = MailId} (record { first = x; second = y; table = t }) (record { first = q; second = r; table = table })
inboxes_of_mail q r table t x y items beside is is' of of' same =
    let those : ◌≡◌ {A = MailId} (record { first = x; second = y; table = t }) (record { first = queue_of items; second = queue_of beside; table = t }) =
    λ i. record { first = is i; second = is' i; table = t } in
    those ∙ of_mail q r table t items beside of of' same

-- a lane's pass sent nothing
pub new_lane : (lane : Lane) (q : QueueId) (items : ItemPass) (marks : MarkPass) → IsSegPassOf q items → marks.me.1 ≡ []
    → hand_of items ≡ sender lane [] → view marks ≡ sender lane [] → IsLane lane 0 items marks
new_lane lane q items marks of slots is unsent = record {
  free = record { hand = of.1; spare = of.2; slots = slots };
  sends = is ∙ sym (ap (λ (h : Hand Item). sender lane h.sent) is);
  counts = sym (ap (λ (h : Hand Item). length h.sent) is);
  unsent = unsent;
}

-- the inbox of a lane took nothing
pub new_inbox : (lane : Lane) (q : QueueId) (items : ItemPass) → IsSegPassOf q items → hand_of items ≡ taker lane [] → IsLaneInbox lane 0 items
new_inbox lane q items of is =
    let none : (hand_of items).got ≡ [] = ap (λ (h : Hand Item). h.got) is in
    record {
      hand = of.1;
      spare = of.2;
      takes = is ∙ sym (ap (λ (h : Hand Item). taker lane h.got) is);
      only = ap (items_of lane) none ∙ sym none;
      counts = sym (ap length none);
    }

-- nor did both of them, and no mark came
pub new_inboxes : (first second : LaneReceiver) (marks : MarkPass) → first.lane ≡ First → second.lane ≡ Second → first.taken ≡ [] → second.taken ≡ []
    → marks.me.1 ≡ [] → view marks ≡ without Second (without First opening) → IsInbox first second marks None None
new_inboxes first second marks of of' none none' slots is = record {
  first_lane = of;
  second_lane = of';
  few_first = omega (arith, ap length none);
  few_second = omega (arith, ap length none');
  slots = slots;
  takes_marks = ap (λ (h : Hand Mark). h.takes) is;
  first_marked = ap (λ (h : Hand Mark). of_lane mark_lane First h.got) is;
  second_marked = ap (λ (h : Hand Mark). of_lane mark_lane Second h.got) is;
}
