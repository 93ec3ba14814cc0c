use Rattle.std.proofs.Common.{◌≡◌, sym, subst}
use Rattle.object_history.specs.Cache.{cached_after}
use Rattle.object_history.specs.Observations.{Watched}
use Rattle.object_cache.specs.Change.{applied}
use Rattle.core_rules.specs.Core.{State}
use Rattle.core_rules.specs.Take.{wakes}
use Rattle.core_keys.specs.Queued.{GoBehind}
use Rattle.ctl_core.specs.Reached.{IsReached}
use Rattle.ctl_core.specs.Waking.{may_wake}
use Rattle.ctl_core.proofs.Entered.{entered}
use Rattle.ctl_core.proofs.WaitingEvents.{WaitIn, configured-wait}
use Rattle.ctl_core.proofs.WaitingQueued.{woken-behind}
use Rattle.ctl_core.proofs.Wakes.{woken-configured}
use Rattle.ctl_core.proofs.state.CoreState.configure.Goals as goal

pub queue_and_apply-requires : goal.queue_and_apply-requires
queue_and_apply-requires c =
    let i = c.self.inside in
    let s : State = record { class = i.class; held = i.cache; claims = i.book.claims; queue = i.queue; awaiting = i.awaiting; out = i.out } in
    let reached : IsReached s = rw (← c.self.view_is) at c.requires.reached in
    let more_is = rw (← c.self.view_is) at c.in-Ok.ensures in
    subst (λ more. GoBehind more s.queue) (sym more_is) (woken-behind (may_wake s.held c.args.event) s reached)

pub invariant_of-self-2 : goal.invariant_of-self-2
invariant_of-self-2 c =
    let i = c.self.inside in
    let s : State = record { class = i.class; held = i.cache; claims = i.book.claims; queue = i.queue; awaiting = i.awaiting; out = i.out } in
    let reached : IsReached s = rw (← c.self.view_is) at c.requires.reached in
    let more_is = rw (← c.self.view_is) at c.in-Ok.ensures in
    let event = c.args.event in
    let wakes_is : c.wakes-wakes.result ≡ wakes s.held (applied s.held event) (cached_after (Watched event) s.held) =
    rw (c.is_ready.ensures, c.is_ready-was_ready.ensures, c.in_ok-applied.ensures.applied, c.in_ok-applied.ensures.cache) at c.wakes-wakes.ensures in
    let state_is = woken-configured s event c.queue_and_apply.new.cache c.wakes-wakes.result c.len-queued.result c.in-Ok.woken.items _ _ c.requires.configures
    wakes_is c.len-queued.ensures
    more_is c.in_ok-applied.ensures.cache c.in_ok-applied.ensures.queue c.truncate_unless.ensures in (
      subst (λ (t : State). WaitIn t c.clear_where.new.self) (sym state_is)
          (configured-wait s event c.wakes-wakes.result i.waiting c.clear_where.new.self reached c.requires.configures c.self.invariant.0 wakes_is
          c.clear_where.ensures),
      entered event i.cache c.queue_and_apply.new.cache c.in_ok-applied.applied i.book.entries c.enter_accepted.new.book.entries
          c.in_ok-applied.ensures.cache c.in_ok-applied.ensures.applied c.enter_accepted.ensures.accepted c.enter_accepted.ensures.others c.self.invariant.1,
    )
