-- What the items of lanes are.
use Rattle.std.specs.Prelude.{◌≡◌, ℕ, Bool, true, List, Option, Ok}
use Rattle.std.specs.List.{AllByRecursion}
use Rattle.kube_events.specs.Event.{event_of_line}
use Rattle.kube_model.specs.declared.event.Event.{Event}
use Rattle.lane_mail.specs.declared.item.Item.{Item}
use Rattle.lane_mail.specs.declared.lane.Lane.{Lane}
use Rattle.lane_drive.specs.Stops.{AreBeginnings}

-- The event of the item is what some line is read as, and may come by the item's lane.
pub record IsRead (belongs : Lane → Event → Bool) (item : Item) : Type 0 where
  pub bytes : List ℕ
  pub read : event_of_line bytes ≡ Ok item.event
  pub fits : belongs item.lane item.event ≡ true

-- whatever is a beginning of each lane consists of such items
abbrev pub ItemsAreRead : (Lane → Event → Bool) → Type 0
ItemsAreRead belongs = (first second : Option (List ℕ)) (items : List Item) → AreBeginnings belongs first second items → AllByRecursion (IsRead belongs) items
