-- What a lane's pass knows once it sent an item, or kept it.
use Rattle.std.proofs.Common.{◌≡◌, ℕ, ◌+◌, [], ◌∷◌, ◌++◌, length, refl, sym, ap, ◌∙◌, length-append, arith}
use Rattle.crossbeam_queue.specs.SegTies.{IsSegPassOf}
use Rattle.lane_mail.specs.declared.lane.Lane.{Lane}
use Rattle.lane_mail.specs.declared.lane.Lane.TheVariants.{First, Second}
use Rattle.lane_mail.specs.declared.item.Item.{Item}
use Rattle.lane_mail.specs.declared.hand.Hand.{Hand}
use Rattle.lane_mail.specs.Hands.{sender, sent_also}
use Rattle.lane_mail.specs.Values.{QueueId, MailId, Sender, lane_queue, sent_more}
use Rattle.lane_mail.specs.Inside.{ItemPass, MarkPass, hand_of, queue_of, mail_of, IsLane}

module _ (lane : Lane) (items beside : ItemPass) (marks : MarkPass) where
  own_queue : (l : Lane) → lane_queue l (mail_of l items beside marks) ≡ queue_of items
  own_queue First = refl
  own_queue Second = refl

  -- the pass is one of its lane's queue in its mail
  pub own_pass : (count : ℕ) (mail : MailId) (q : QueueId) → mail_of lane items beside marks ≡ mail → q ≡ lane_queue lane mail
      → IsLane lane count items marks → IsSegPassOf q items
  own_pass count mail q of is inv =
      let same : queue_of items ≡ q = sym (own_queue lane) ∙ (ap (lane_queue lane) of ∙ sym is) in
      ((ap (λ (x : QueueId). x.web) same, ap (λ (x : QueueId). x.heap) same), inv.free.hand, inv.free.spare)

  module _ (items' : ItemPass) (q : QueueId) (old : IsSegPassOf q items) (new : IsSegPassOf q items') where
    mail_same : (l : Lane) → mail_of l items' beside marks ≡ mail_of l items beside marks
    mail_same First = λ i. record {
      first = record { web = (new.0.0 ∙ sym old.0.0) i; heap = (new.0.1 ∙ sym old.0.1) i };
      second = queue_of beside;
      table = marks.table_id;
    }
    mail_same Second = λ i. record {
      first = queue_of beside;
      second = record { web = (new.0.0 ∙ sym old.0.0) i; heap = (new.0.1 ∙ sym old.0.1) i };
      table = marks.table_id;
    }

    -- what contracts see of it
    pub sends_more : (x : Item) → hand_of items' ≡ sent_also (hand_of items) x
        → ◌≡◌ {A = Sender} (record { mail = mail_of lane items' beside marks; lane = lane; sent = (hand_of items').sent })
        (sent_more (record { mail = mail_of lane items beside marks; lane = lane; sent = (hand_of items).sent }) x)
    sends_more x is = λ i. record { mail = mail_same lane i; lane = lane; sent = (is i).sent }

    pub sends_none : hand_of items' ≡ hand_of items
        → ◌≡◌ {A = Sender} (record { mail = mail_of lane items' beside marks; lane = lane; sent = (hand_of items').sent })
        (record { mail = mail_of lane items beside marks; lane = lane; sent = (hand_of items).sent })
    sends_none is = λ i. record { mail = mail_same lane i; lane = lane; sent = (is i).sent }

-- and what is true of its fields
module _ (lane : Lane) (count : ℕ) (items items' : ItemPass) (marks : MarkPass) (q : QueueId) (inv : IsLane lane count items marks)
    (new : IsSegPassOf q items') where
  pub sent_one : (x : Item) → hand_of items' ≡ sent_also (hand_of items) x → IsLane lane (count + 1) items' marks
  sent_one x is =
      let sent : (hand_of items').sent ≡ (hand_of items).sent ++ x ∷ [] = ap (λ (h : Hand Item). h.sent) is in
      record {
        free = record { hand = new.1; spare = new.2; slots = inv.free.slots };
        sends = is ∙ (ap (λ (h : Hand Item). sent_also h x) inv.sends ∙ ap (sender lane) (sym sent));
        counts = omega (arith, inv.counts, ap length sent, length-append (hand_of items).sent (x ∷ []));
        unsent = inv.unsent;
      }

  pub sent_none : hand_of items' ≡ hand_of items → IsLane lane count items' marks
  sent_none is = record {
    free = record { hand = new.1; spare = new.2; slots = inv.free.slots };
    sends = is ∙ (inv.sends ∙ ap (λ (h : Hand Item). sender lane h.sent) (sym is));
    counts = inv.counts ∙ ap (λ (h : Hand Item). length h.sent) (sym is);
    unsent = inv.unsent;
  }
