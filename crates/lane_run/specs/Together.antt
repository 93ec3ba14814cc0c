-- The items of two lanes, put together.
use Rattle.std.specs.Prelude.{◌≡◌, List}
use Rattle.lane_mail.specs.declared.lane.Lane.TheVariants.{First, Second}
use Rattle.lane_mail.specs.declared.item.Item.{Item}
use Rattle.lane_mail.specs.Lanes.{items_of}
use Rattle.lane_run.specs.Watched.{IsBeginning}

-- of each lane they have just these
pub record HasLanes (items firsts seconds : List Item) : Type 0 where
  pub first : items_of First items ≡ firsts
  pub second : items_of Second items ≡ seconds

-- They are the first of some that have of each lane just these.
pub record BeginsLanes (firsts seconds part : List Item) : Type 0 where
  pub whole : List Item
  pub lanes : HasLanes whole firsts seconds
  pub begins : IsBeginning part whole
