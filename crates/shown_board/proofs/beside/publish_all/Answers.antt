use Rattle.std.proofs.Common.{◌++◌, ◌∷◌, [], sym, ap, ◌∙◌, append_assoc}
use Rattle.std.specs.Vec.Iter.{into_iter_items}
use Rattle.shown_board.proofs.beside.publish_all.Goals as goal

pub loop-event-preserved : goal.loop-event-preserved
loop-event-preserved g c =
    let one = c.publish_one.ensures c.if-not-publish_one.false in
    let left = into_iter_items c.next.new.self in (
      ap (λ l. l ++ left) one.0
          ∙ (append_assoc c.loop-event.writer.published (c.in-Some.event ∷ []) left
          ∙ (ap (λ l. c.loop-event.writer.published ++ l) (sym c.in-Some.ensures.steps.0) ∙ c.loop-event.invariant.0)),
      one.1,
    )
