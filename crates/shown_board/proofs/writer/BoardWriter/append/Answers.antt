use Rattle.std.proofs.Common.{sym, ap, ◌∙◌}
use Rattle.std.proofs.lemmas.Bool.{true≢false}
use Rattle.shown_board.specs.Boarded.{Ending}
use Rattle.shown_board.proofs.Pending.{events-more, whole-more}
use Rattle.shown_board.proofs.writer.BoardWriter.append.Goals as goal

pub invariant_of-self : goal.invariant_of-self
invariant_of-self g c = λ kept. c.self.invariant kept ∙ sym c.if-not-add.ensures

pub invariant_of-self-in-Ok : goal.invariant_of-self-in-Ok
invariant_of-self-in-Ok g c = λ kept.
    rw (c.in-Ok.ensures.desk, c.in-Ok.ensures.pending)
    (whole-more _ _ _ c.self.inside.grower c.add.new.self (c.self.invariant kept) c.if-not-add.ensures)

pub returns-in-Ok-clause-published : goal.returns-in-Ok-clause-published
returns-in-Ok-clause-published g c = rw (c.in-Ok.ensures.desk, ← c.self.view_is)

pub returns-in-Ok-clause-pending : goal.returns-in-Ok-clause-pending
returns-in-Ok-clause-pending g c = rw (c.in-Ok.ensures.pending, ← c.self.view_is) (events-more _ _)

pub invariant_of-self-in-Err : goal.invariant_of-self-in-Err
invariant_of-self-in-Err g c = λ lost. absurd (true≢false lost)

pub returns-in-Err-clause-published : goal.returns-in-Err-clause-published
returns-in-Err-clause-published g c = rw (c.in-Err.ensures.desk, ← c.self.view_is)

pub returns-in-Err-clause-pending : goal.returns-in-Err-clause-pending
returns-in-Err-clause-pending g c = (
  c.into_event.ensures ∙ ap (λ (back : Ending _). back.event) c.in-Err.ensures.pending.0,
  rw (c.in-Err.ensures.pending.1, ← c.self.view_is),
)
