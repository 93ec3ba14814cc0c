use Rattle.std.proofs.Common.{◌∙◌}
use Rattle.shown_board.proofs.Pending.{published-by, whole-stays}
use Rattle.shown_board.proofs.writer.BoardWriter.publish.Goals as goal

pub invariant_of-self : goal.invariant_of-self
invariant_of-self g c = λ kept. whole-stays _ _ _ _ c.replace_with.result c.replace_with.ensures ∙ c.self.invariant kept

pub returns : goal.returns
returns g c = rw (← c.self.view_is) (published-by _ _ _ _ c.replace_with.result c.replace_with.ensures)
