-- What is true of the fields of each pass.
use Rattle.std.specs.Prelude.{◌≡◌, ℕ, ◌^◌, ◌≤◌, true, Option, Some, None, List, [], ◌∷◌, length}
use Rattle.crossbeam_queue.specs.Passes.{view}
use Rattle.crossbeam_queue.specs.Passes as marks_pass
use Rattle.atomic_blocks.specs.declared.web.Seat.{Seat as ItemSeat}
use Rattle.crossbeam_queue.specs.declared.seg_queue.Going.{Going}
use Rattle.std.specs.declared.alloc.Global.{Global}
use Rattle.lane_mail.specs.declared.lane.Lane.{Lane}
use Rattle.lane_mail.specs.declared.lane.Lane.TheVariants.{First, Second}
use Rattle.lane_mail.specs.declared.item.Item.{Item}
use Rattle.lane_mail.specs.declared.mark.Mark.{Mark}
use Rattle.lane_mail.specs.declared.hand.Hand.{Hand}
use Rattle.lane_mail.specs.Lanes.{of_lane, mark_lane, items_of}
use Rattle.lane_mail.specs.Hands.{sender, taker}
use Rattle.lane_mail.specs.Values.{QueueId, MailId, LaneReceiver}

-- a pass of the items' queue
abbrev pub ItemPass : Type 0
ItemPass = ItemSeat (Option Item) (Going Item (Hand Item)) Global

-- a pass of the marks' queue
abbrev pub MarkPass : Type 0
MarkPass = marks_pass.Pass Mark (Hand Mark)

-- what the items' pass knows
abbrev pub hand_of : ItemPass → Hand Item
hand_of pass = pass.me.view.client

-- the queue of which this is a pass
abbrev pub queue_of : ItemPass → QueueId
queue_of pass = record { web = pass.web; heap = pass.heap }

-- the mail of which these are passes: of a lane's queue, of the other's, and of the marks'
abbrev pub mail_of : Lane → ItemPass → ItemPass → MarkPass → MailId
mail_of First items beside marks = record { first = queue_of items; second = queue_of beside; table = marks.table_id }
mail_of Second items beside marks = record { first = queue_of beside; second = queue_of items; table = marks.table_id }

-- the end mark of a lane that sent so many
abbrev pub mark : Lane → ℕ → Mark
mark lane count = record { lane = lane; count = count }

-- the marks of a lane of which this is known
abbrev pub marks_of : Lane → Option ℕ → List Mark
marks_of lane None = []
marks_of lane (Some count) = mark lane count ∷ []

-- nothing of a queue is out with the passes
pub record IsFree (items : ItemPass) (marks : MarkPass) : Type 0 where
  pub hand : items.me.hand ≡ None
  pub spare : items.me.spare ≡ None
  pub slots : marks.me.1 ≡ []

-- the lane's pass counts what it sent, and has put no mark
pub record IsLane (lane : Lane) (count : ℕ) (items : ItemPass) (marks : MarkPass) : Type 0 where
  pub free : IsFree items marks
  pub sends : hand_of items ≡ sender lane (hand_of items).sent
  pub counts : count ≡ length (hand_of items).sent
  pub unsent : view marks ≡ sender lane []

-- the lane has put one mark, with the number of items that it sent
pub record IsDone (lane : Lane) (items : ItemPass) (marks : MarkPass) : Type 0 where
  pub free : IsFree items marks
  pub sends : hand_of items ≡ sender lane (hand_of items).sent
  pub ended : view marks ≡ sender lane (mark lane (length (hand_of items).sent) ∷ [])

-- the inbox of a lane counts what it took, which is of that lane
pub record IsLaneInbox (lane : Lane) (count : ℕ) (items : ItemPass) : Type 0 where
  pub hand : items.me.hand ≡ None
  pub spare : items.me.spare ≡ None
  pub takes : hand_of items ≡ taker lane (hand_of items).got
  pub only : items_of lane (hand_of items).got ≡ (hand_of items).got
  pub counts : count ≡ length (hand_of items).got

-- the inbox has one of each lane, and holds the count of each mark that it took
pub record IsInbox (first second : LaneReceiver) (marks : MarkPass) (first_end second_end : Option ℕ) : Type 0 where
  pub first_lane : first.lane ≡ First
  pub second_lane : second.lane ≡ Second
  pub few_first : length first.taken ≤ 2 ^ 61
  pub few_second : length second.taken ≤ 2 ^ 61
  pub slots : marks.me.1 ≡ []
  pub takes_marks : (view marks).takes ≡ true
  pub first_marked : of_lane mark_lane First (view marks).got ≡ marks_of First first_end
  pub second_marked : of_lane mark_lane Second (view marks).got ≡ marks_of Second second_end
