use Rattle.std.proofs.Common.{◌&&◌, is_some, sym, ap, subst, ◌∙◌}
use Rattle.object_history.specs.Cache.{Cached}
use Rattle.core_rules.specs.Core.{State, is_ready}
use Rattle.core_rules.specs.Take.{have_claims, listed_claims, listed_keys}
use Rattle.core_keys.specs.Queued.{GoBehind}
use Rattle.ctl_core.specs.Reached.{IsReached}
use Rattle.ctl_core.proofs.Entered.{still-those}
use Rattle.ctl_core.proofs.Kept.{services-listed}
use Rattle.ctl_core.proofs.WaitingEvents.{WaitIn, listed-wait}
use Rattle.ctl_core.proofs.WaitingQueued.{listed-behind}
use Rattle.ctl_core.proofs.state.CoreState.end_services.Goals as goal

pub append_new-requires : goal.append_new-requires
append_new-requires c =
    let i = c.self.inside in
    let s : State = record { class = i.class; held = i.cache; claims = i.book.claims; queue = i.queue; awaiting = i.awaiting; out = i.out } in
    let reached : IsReached s = rw (← c.self.view_is) at c.requires in
    let more_is = rw (← c.self.view_is) at c.in_ok-more.ensures in
    subst (λ more. GoBehind more s.queue) (sym more_is)
    (listed-behind (is_ready s.held) (s.held.config_ended && is_some s.held.config) (have_claims s.held.services s.claims) s reached)

pub invariant_of-self-2 : goal.invariant_of-self-2
invariant_of-self-2 c =
    let i = c.self.inside in
    let s : State = record { class = i.class; held = i.cache; claims = i.book.claims; queue = i.queue; awaiting = i.awaiting; out = i.out } in
    let reached : IsReached s = rw (← c.self.view_is) at c.requires in
    let more_is = rw (← c.self.view_is) at c.in_ok-more.ensures in
    let state_is = services-listed s c.end_services.new.self c.in_ok-more.more.items _ _ _ _ more_is c.end_services.ensures c.in_ok-append_new.ensures.ok
    (c.keep_listed_claims.ensures.claims ∙ ap (λ es. listed_claims es s.claims) c.services-2.ensures)
    (c.keep_awaiting.ensures ∙ ap (λ es. listed_keys es s.awaiting) c.services-3.ensures)
    (c.keep_listed.ensures ∙ ap (λ es. listed_keys es c.append_new.new.queue) c.services-4.ensures) in (
      subst (λ (t : State). WaitIn t c.keep_listed-2.new.self) (sym state_is)
          (listed-wait s c.services-5.result.now c.have_claims-is_lost.result i.waiting c.keep_listed-2.new.self reached c.self.invariant.0
          (c.services-5.ensures ∙ ap (λ (held : Cached). held.services) c.end_services.ensures)
          (c.have_claims-is_lost.ensures ∙ ap (λ es. have_claims es s.claims) c.services.ensures) c.keep_listed-2.ensures),
      still-those i.cache c.end_services.new.self i.book.entries _ (ap (λ (h : Cached). h.config) c.end_services.ensures)
          c.keep_listed_claims.ensures.entries c.self.invariant.1,
    )

pub returns-clause-ok : goal.returns-clause-ok
returns-clause-ok c =
    let i = c.self.inside in
    let s : State = record { class = i.class; held = i.cache; claims = i.book.claims; queue = i.queue; awaiting = i.awaiting; out = i.out } in
    let reached : IsReached s = rw (← c.self.view_is) at c.requires in
    let more_is = rw (← c.self.view_is) at c.in_ok-more.ensures in
    let state_is = services-listed s c.end_services.new.self c.in_ok-more.more.items _ _ _ _ more_is c.end_services.ensures c.in_ok-append_new.ensures.ok
    (c.keep_listed_claims.ensures.claims ∙ ap (λ es. listed_claims es s.claims) c.services-2.ensures)
    (c.keep_awaiting.ensures ∙ ap (λ es. listed_keys es s.awaiting) c.services-3.ensures)
    (c.keep_listed.ensures ∙ ap (λ es. listed_keys es c.append_new.new.queue) c.services-4.ensures) in
    rw (← c.self.view_is) state_is
