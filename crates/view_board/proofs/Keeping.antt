-- Announcers that are known, over an event.
use Rattle.std.proofs.Common.{ℕ, List, Option, Some, None}
use Rattle.ip_ranges.specs.Values.{AddressValue}
use Rattle.speaker_view.specs.declared.change.ViewChange.{ViewChange}
use Rattle.speaker_view.specs.Change.{OthersStay}
use Rattle.speaker_view.specs.ViewValue.{ViewValue}
use Rattle.l2_elect.specs.Kept.{AreKnown}
use Rattle.l2_elect.proofs.Keeping.{were-kept}
use Rattle.view_board.specs.Answers.{AreRightIfKnown}

-- those that were known were those of the view before the event
pub right_if_known : (known : Option (List (AddressValue × List ℕ))) (v w : ViewValue) (change : ViewChange) → AreKnown known v → OthersStay v w change
    → AreRightIfKnown change known w
right_if_known None v w change are stay = tt
right_if_known (Some entries) v w change are stay = were-kept entries v w change are stay
