-- What a pass may do, and what it did.
use Rattle.std.specs.Prelude.{Bool, true, false, if◌then◌else◌, List, [], ◌∷◌, ◌++◌}
use Rattle.lane_mail.specs.declared.lane.Lane.{Lane}
use Rattle.lane_mail.specs.declared.lane.Lane.TheVariants.{First, Second}
use Rattle.lane_mail.specs.declared.hand.Hand.{Hand}
use Rattle.lane_mail.specs.Lanes.{is_lane}

module _ {T : Type 0} where
  -- what is known of a pass
  abbrev pub hand : Bool → Bool → Bool → List T → List T → Hand T
  hand first second takes sent got = record { first = first; second = second; takes = takes; sent = sent; got = got }

  -- whether it may send for the lane
  abbrev pub may_send : Lane → Hand T → Bool
  may_send First v = v.first
  may_send Second v = v.second

  -- of the first pass, which may do all and did nothing
  abbrev pub opening : Hand T
  opening = hand true true true [] []

  -- of a pass that was taken in by another
  abbrev pub spent : Hand T
  spent = hand false false false [] []

  -- of a lane's pass that sent these
  abbrev pub sender : Lane → List T → Hand T
  sender lane sent = hand (is_lane First lane) (is_lane Second lane) false sent []

  -- of what is left once the lane has a pass of its own
  abbrev pub without : Lane → Hand T → Hand T
  without lane v = hand (if is_lane First lane then false else v.first) (if is_lane Second lane then false else v.second) v.takes v.sent v.got

  -- of the one that took these of a lane's own queue. It alone may send there for the other lane, and sent nothing.
  abbrev pub taker : Lane → List T → Hand T
  taker lane got = without lane (hand true true true [] got)

  -- after it sent one more
  abbrev pub sent_also : Hand T → T → Hand T
  sent_also v x = hand v.first v.second v.takes (v.sent ++ x ∷ []) v.got

  -- after it took one more
  abbrev pub got_also : Hand T → T → Hand T
  got_also v x = hand v.first v.second v.takes v.sent (v.got ++ x ∷ [])

  -- what v took, beside what w sent
  abbrev pub gathered : Hand T → Hand T → Hand T
  gathered v w = hand w.first w.second v.takes w.sent v.got
