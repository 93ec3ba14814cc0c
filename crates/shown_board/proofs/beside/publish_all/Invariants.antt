use Rattle.std.proofs.Common.{◌≡◌, ◌++◌, []}
use Rattle.std.specs.Vec.Iter.{into_iter_items}
use Rattle.shown_board.proofs.beside.publish_all.Given as goal

-- what is published and what is left make the whole, and nothing is pending
abbrev pub invariant-loop-event : goal.invariant-loop-event
invariant-loop-event g l = (l.writer.published ++ into_iter_items l.event-iterator ≡ l.fn.events.items) × (l.writer.pending ≡ [])
