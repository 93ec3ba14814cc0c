-- An item that is taken, and whose text isn't written whole.
use Rattle.std.proofs.Common.{ℕ, List, Option, inr}
use Rattle.lane_mail.specs.declared.item.Item.{Item}
use Rattle.line_run.specs.declared.halt.Halt.{Halt}
use Rattle.line_run.specs.declared.halt.Halt.TheVariants.{WriteFault, NoMemory}
use Rattle.line_run.specs.declared.halt.Refusal.TheVariants.{Halted}
use Rattle.lane_drive.specs.LaneRules.{LaneRules, BreaksItem, RefusesItem}

pub item_broken : {S E : Type 0} (halt : Halt) (rules : LaneRules S E) (s : S) (item : Item) (before after : Option (List ℕ)) (k n : ℕ)
    → BreaksItem halt rules s item before after k n → RefusesItem (Halted halt) rules s item before after k n
item_broken WriteFault rules s item before after k n b = b
item_broken NoMemory rules s item before after k n b = inr b
