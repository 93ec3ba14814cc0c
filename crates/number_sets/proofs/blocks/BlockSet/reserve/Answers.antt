use Rattle.std.proofs.Common.{refl}
use Rattle.number_sets.proofs.BlockLaws.{same-closed}
use Rattle.number_sets.proofs.blocks.BlockSet.reserve.Goals as goal
use Rattle.number_sets.proofs.blocks.BlockSet.reserve.Goals.{then-self+in_ok-reserve, else-self}

pub invariant_of-self : goal.invariant_of-self
invariant_of-self c = same-closed c.self.inside.numbers _ c.self.inside.closed _ refl c.reserve.ensures.has c.self.invariant

pub invariant_of-self-2 : goal.invariant_of-self-2
invariant_of-self-2 c =
    elim c.if-self.branch [
      | then-self+in_ok-reserve w ↦ same-closed c.self.inside.numbers _ c.self.inside.closed _ (rw w.self-inside-is at c.reserve-2.ensures.has)
          (rw w.self-inside-is w.reserve.ensures.has) c.self.invariant
      | else-self w ↦ same-closed c.self.inside.numbers _ c.self.inside.closed _ (rw w.self-inside-is at c.reserve-2.ensures.has) (rw w.self-inside-is refl)
          c.self.invariant
    ]
