-- What one look into the mail gives.
use Rattle.std.specs.Prelude.{◌≡◌, ◌⊎◌, ◌+◌, ◌^◌, ◌≤◌, Some, length}
use Rattle.lane_mail.specs.declared.lane.Lane.{Lane}
use Rattle.lane_mail.specs.declared.item.Item.{Item}
use Rattle.lane_mail.specs.declared.taken.Taken.{Taken}
use Rattle.lane_mail.specs.declared.taken.Taken.TheVariants.{Item as OneItem, AllEnded}
use Rattle.lane_mail.specs.Lanes.{other}
use Rattle.lane_mail.specs.Values.{Receiver, HasAll, taken_of, empty_of, emptied, took_more}

-- the lane was found empty after the last item of the other
abbrev pub WasEmpty : Lane → Receiver → Receiver → Type 0
WasEmpty lane old new = empty_of lane new ≡ Some (length (taken_of (other lane) old))

-- an item of the lane may be taken: it is its turn, or the lane whose turn it is was found empty
abbrev pub IsInTurn : Lane → Receiver → Receiver → Type 0
IsInTurn lane old new = (lane ≡ old.next) ⊎ WasEmpty old.next old new

-- the item is of the lane whose turn it is, or that one was found empty first
abbrev pub TakesNext : Item → Receiver → Receiver → Type 0
TakesNext item old new =
    ((item.lane ≡ old.next) × (new ≡ took_more old item)) ⊎ ((item.lane ≡ other old.next) × (new ≡ took_more (emptied old.next old) item))

-- both lanes were found empty
abbrev pub FindsNone : Receiver → Receiver → Type 0
FindsNone old new = new ≡ emptied (other old.next) (emptied old.next old)

-- an item, while more was to come, or that all was taken
abbrev pub Gives : Taken → Receiver → Receiver → Type 0
Gives (OneItem item) old new = TakesNext item old new × (HasAll old → ⊥) × (length new.first + length new.second ≤ 2 ^ 62)
Gives AllEnded old new = (new ≡ old) × HasAll old

-- nothing, while more was to come
abbrev pub GivesNone : Receiver → Receiver → Type 0
GivesNone old new = FindsNone old new × (HasAll old → ⊥)
