use Rattle.std.proofs.Common.{◌&&◌, sym, subst, ◌∙◌, ap}
use Rattle.kube_model.specs.Keys.{same_key}
use Rattle.claim_index.specs.Claims.{has_claims}
use Rattle.object_history.specs.Cache.{Cached}
use Rattle.core_rules.specs.Core.{State, is_ready}
use Rattle.core_keys.specs.Queued.{GoBehind}
use Rattle.ctl_core.specs.Reached.{IsReached}
use Rattle.ctl_core.proofs.Entered.{still-those}
use Rattle.ctl_core.proofs.Kept.{service-dropped}
use Rattle.ctl_core.proofs.WaitingEvents.{WaitIn, dropped-wait}
use Rattle.ctl_core.proofs.WaitingQueued.{dropped-others, waiting-behind}
use Rattle.ctl_core.proofs.state.CoreState.drop_service.Goals as goal

pub append_new-requires : goal.append_new-requires
append_new-requires c =
    let i = c.self.inside in
    let s : State = record { class = i.class; held = i.cache; claims = i.book.claims; queue = i.queue; awaiting = i.awaiting; out = i.out } in
    let reached : IsReached s = rw (← c.self.view_is) at c.requires in
    let lost_is = rw (← c.self.view_is) at c.gives_up-is_lost.ensures in
    let more_is = c.in_ok-more.ensures.keys
    ∙ dropped-others s i.waiting reached c.self.invariant.0 c.in_ok-more.ensures.ordered c.gives_up-is_lost.result c.args.key.now lost_is in
    subst (λ more. GoBehind more s.queue) (sym more_is)
    (waiting-behind (is_ready s.held && has_claims c.args.key.now s.claims) (same_key c.args.key.now) s reached)

pub invariant_of-self-2 : goal.invariant_of-self-2
invariant_of-self-2 c =
    let i = c.self.inside in
    let s : State = record { class = i.class; held = i.cache; claims = i.book.claims; queue = i.queue; awaiting = i.awaiting; out = i.out } in
    let reached : IsReached s = rw (← c.self.view_is) at c.requires in
    let lost_is = rw (← c.self.view_is) at c.gives_up-is_lost.ensures in
    let more_is = c.in_ok-more.ensures.keys
    ∙ dropped-others s i.waiting reached c.self.invariant.0 c.in_ok-more.ensures.ordered c.gives_up-is_lost.result c.args.key.now lost_is in
    let state_is = service-dropped s c.args.key.now _ c.in_ok-more.more.items _ _ _ _ more_is c.delete_service.ensures c.in_ok-append_new.ensures.ok
    c.drop_name.ensures.claims
    c.stop_awaiting.ensures c.drop_key.ensures in (
      subst (λ (t : State). WaitIn t c.release.new.self) (sym state_is)
          (dropped-wait s c.args.key.now c.gives_up-is_lost.result i.waiting c.release.new.self reached c.self.invariant.0 lost_is c.release.ensures),
      still-those i.cache c.delete_service.new.self i.book.entries _ (ap (λ (h : Cached). h.config) c.delete_service.ensures)
          c.drop_name.ensures.entries c.self.invariant.1,
    )

pub returns-clause-ok : goal.returns-clause-ok
returns-clause-ok c =
    let i = c.self.inside in
    let s : State = record { class = i.class; held = i.cache; claims = i.book.claims; queue = i.queue; awaiting = i.awaiting; out = i.out } in
    let reached : IsReached s = rw (← c.self.view_is) at c.requires in
    let lost_is = rw (← c.self.view_is) at c.gives_up-is_lost.ensures in
    let more_is = c.in_ok-more.ensures.keys
    ∙ dropped-others s i.waiting reached c.self.invariant.0 c.in_ok-more.ensures.ordered c.gives_up-is_lost.result c.args.key.now lost_is in
    let state_is = service-dropped s c.args.key.now _ c.in_ok-more.more.items _ _ _ _ more_is c.delete_service.ensures c.in_ok-append_new.ensures.ok
    c.drop_name.ensures.claims
    c.stop_awaiting.ensures c.drop_key.ensures in
    rw (← c.self.view_is) state_is
