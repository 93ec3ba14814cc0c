-- What contracts see of a mail and of its passes.
use Rattle.std.specs.Prelude.{◌≡◌, ℕ, if◌then◌else◌, Option, Some, List, [], ◌∷◌, ◌++◌, length}
use Rattle.std.specs.declared.alloc.Global.{Global}
use Rattle.atomic_table.specs.Seated.{TableId}
use Rattle.crossbeam_queue.specs.SegTies.{SegId}
use Rattle.lane_mail.specs.declared.lane.Lane.{Lane}
use Rattle.lane_mail.specs.declared.lane.Lane.TheVariants.{First, Second}
use Rattle.lane_mail.specs.declared.item.Item.{Item}
use Rattle.lane_mail.specs.Lanes.{is_lane, items_of, other}

-- which queue of items it is
abbrev pub QueueId : Type 0
QueueId = SegId Global

-- which mail it is: the queue of each lane, and that of the marks
pub record MailId : Type 0 where
  pub first : QueueId
  pub second : QueueId
  pub table : TableId

-- the queue of a lane
abbrev pub lane_queue : Lane → MailId → QueueId
lane_queue First mail = mail.first
lane_queue Second mail = mail.second

-- a lane's pass, before and after its end
pub record Sender : Type 0 where
  pub mail : MailId
  pub lane : Lane
  pub sent : List Item

-- The pass that takes, with what was taken of each lane, the counts of the end marks that came, the lane whose turn it is, and how many items of the
-- other lane had been taken when a lane was last found empty.
pub record Receiver : Type 0 where
  pub mail : MailId
  pub first : List Item
  pub second : List Item
  pub first_end : Option ℕ
  pub second_end : Option ℕ
  pub next : Lane
  pub first_empty : Option ℕ
  pub second_empty : Option ℕ

-- the part of that pass that takes of one lane
pub record LaneReceiver : Type 0 where
  pub queue : QueueId
  pub lane : Lane
  pub taken : List Item
  pub empty : Option ℕ

-- what each lane sent
pub record TwoLists : Type 0 where
  pub first : List Item
  pub second : List Item

-- the pass once this item was sent too
abbrev pub sent_more : Sender → Item → Sender
sent_more s item = record s { sent = s.sent ++ item ∷ [] }

-- the part of one lane once this item was taken too
abbrev pub got_more : LaneReceiver → Item → LaneReceiver
got_more r item = record r { taken = r.taken ++ item ∷ [] }

-- the part of one lane once it was found empty, when so many items of the other had been taken
abbrev pub found_empty : LaneReceiver → ℕ → LaneReceiver
found_empty r count = record r { empty = Some count }

-- the pass once this item was taken too, which joins what was taken of its lane: then it is the other lane's turn
abbrev pub took_more : Receiver → Item → Receiver
took_more r item = record r {
  first = r.first ++ items_of First (item ∷ []);
  second = r.second ++ items_of Second (item ∷ []);
  next = other item.lane;
}

-- the pass once the lane was found empty
abbrev pub emptied : Lane → Receiver → Receiver
emptied lane r = record r {
  first_empty = if is_lane First lane then Some (length r.second) else r.first_empty;
  second_empty = if is_lane Second lane then Some (length r.first) else r.second_empty;
}

-- what was taken of a lane
abbrev pub taken_of : Lane → Receiver → List Item
taken_of First r = r.first
taken_of Second r = r.second

-- how many items of the other lane had been taken when the lane was last found empty
abbrev pub empty_of : Lane → Receiver → Option ℕ
empty_of First r = r.first_empty
empty_of Second r = r.second_empty

-- These items were taken, and each joined what was taken of its lane. The lists are else as before.
pub record Took (items : List Item) (old new : Receiver) : Type 0 where
  pub first : new.first ≡ old.first ++ items_of First items
  pub second : new.second ≡ old.second ++ items_of Second items

-- nothing was taken
pub record TookNone (old new : Receiver) : Type 0 where
  pub first : new.first ≡ old.first
  pub second : new.second ≡ old.second

-- both end marks came, and as many items of each lane were taken as its mark says
pub record HasAll (r : Receiver) : Type 0 where
  pub first : r.first_end ≡ Some (length r.first)
  pub second : r.second_end ≡ Some (length r.second)

-- the count that was known is known still
abbrev pub EndStays : Option ℕ → Option ℕ → Type 0
EndStays old new = (count : ℕ) → old ≡ Some count → new ≡ Some count

-- an end mark that came before is not forgotten, nor replaced by another
pub record EndsStay (old new : Receiver) : Type 0 where
  pub first : EndStays old.first_end new.first_end
  pub second : EndStays old.second_end new.second_end
