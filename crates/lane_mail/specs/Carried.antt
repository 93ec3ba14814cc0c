-- The rule of each queue: what a lane sent is what was taken of it, and then what the queue holds of it.
use Rattle.std.specs.Prelude.{◌≡◌, ℕ, ◌≤◌, true, List, ◌++◌, length}
use mathlib.Core.Option.{some}
use lib.ListN.{get_elem?}
use Rattle.lane_mail.specs.declared.lane.Lane.{Lane}
use Rattle.lane_mail.specs.declared.hand.Hand.{Hand}
use Rattle.lane_mail.specs.Lanes.{of_lane}
use Rattle.lane_mail.specs.Hands.{may_send, got_also}

-- each lane has one pass that sends for it, and one pass takes
pub record Fits {T : Type 0} (lane_of : T → Lane) (seat : Lane → ℕ) (inbox : ℕ) (got all : List T) (pass : ℕ) (v : Hand T) : Type 0 where
  pub sends : (lane : Lane) → may_send lane v ≡ true → (pass ≡ seat lane) × (v.sent ≡ of_lane lane_of lane all)
  pub takes : v.takes ≡ true → (pass ≡ inbox) × (v.got ≡ got)

-- no lane sent more than so many, and each pass fits what was taken and what the queue holds
pub record Carries {T : Type 0} (lane_of : T → Lane) (most : ℕ) (items : List T) (views : List (Hand T)) : Type 0 where
  pub seat : Lane → ℕ
  pub inbox : ℕ
  pub got : List T
  pub few : (lane : Lane) → length (of_lane lane_of lane (got ++ items)) ≤ most
  pub fits : (pass : ℕ) (v : Hand T) → get_elem? views pass ≡ some v → Fits lane_of seat inbox got (got ++ items) pass v

-- what was taken of a lane, and what the queue holds of it, is what was sent for it
abbrev pub IsWhole : {T : Type 0} → (T → Lane) → Hand T → List T → Type 0
IsWhole lane_of v items = (lane : Lane) → may_send lane v ≡ true → of_lane lane_of lane (v.got ++ items) ≡ v.sent

-- x was taken, and no lane has more than so many of what was taken. Of a lane for which the taker itself may send there is just what it sent.
pub record Takes {T : Type 0} (lane_of : T → Lane) (most : ℕ) (v : Hand T) (x : T) (w : Hand T) : Type 0 where
  pub got : w ≡ got_also v x
  pub few : (lane : Lane) → length (of_lane lane_of lane w.got) ≤ most
  pub left : List T
  pub own : IsWhole lane_of w left
