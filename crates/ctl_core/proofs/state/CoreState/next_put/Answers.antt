use Rattle.core_rules.specs.Core.{State}
use Rattle.ctl_core.specs.Reached.{IsReached}
use Rattle.ctl_core.proofs.WaitingTurns.{turn-waits}
use Rattle.ctl_core.proofs.state.CoreState.next_put.Goals as goal

pub invariant_of-self-2 : goal.invariant_of-self-2
invariant_of-self-2 c =
    let i = c.self.inside in
    let s : State = record { class = i.class; held = i.cache; claims = i.book.claims; queue = i.queue; awaiting = i.awaiting; out = i.out } in
    let reached : IsReached s = rw (← c.self.view_is) at c.requires.reached in (
      turn-waits s reached i.waiting c.let_front_wait.new.waiting c.pop_first.new.self c.self.invariant.0
          (λ k. rw (← c.as_ref.ensures.value, ← c.services-services.ensures) (c.in-Ok-let_front_wait.ensures.ok k)) c.pop_first.ensures.rest,
      c.self.invariant.1,
    )
