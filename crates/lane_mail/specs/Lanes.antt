-- The two lanes, and what a list holds of one.
use Rattle.std.specs.Prelude.{Bool, true, false, List, filter}
use Rattle.lane_mail.specs.declared.lane.Lane.{Lane}
use Rattle.lane_mail.specs.declared.lane.Lane.TheVariants.{First, Second}
use Rattle.lane_mail.specs.declared.item.Item.{Item}
use Rattle.lane_mail.specs.declared.mark.Mark.{Mark}

-- whether both are one lane
abbrev pub is_lane : Lane → Lane → Bool
is_lane First First = true
is_lane First Second = false
is_lane Second First = false
is_lane Second Second = true

-- the one that it isn't
abbrev pub other : Lane → Lane
other First = Second
other Second = First

-- the elements of a lane, in their order
abbrev pub of_lane : {T : Type 0} → (T → Lane) → Lane → List T → List T
of_lane lane_of lane xs = filter (λ x. is_lane lane (lane_of x)) xs

-- the lane by which the item came
abbrev pub item_lane : Item → Lane
item_lane item = item.lane

-- the lane that ended
abbrev pub mark_lane : Mark → Lane
mark_lane mark = mark.lane

-- the items of a lane, in their order
abbrev pub items_of : Lane → List Item → List Item
items_of = of_lane item_lane
