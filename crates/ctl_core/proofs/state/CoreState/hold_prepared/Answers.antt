use Rattle.std.proofs.Common.{sym, ap, subst, ◌∙◌}
use Rattle.claim_index.specs.Claims.{ClaimValue}
use Rattle.object_history.specs.Cache.{Cached}
use Rattle.core_rules.specs.Core.{State}
use Rattle.ctl_core.specs.Holding.{IsPrepared}
use Rattle.core_keys.specs.Queued.{GoBehind}
use Rattle.ctl_core.specs.Reached.{IsReached}
use Rattle.ctl_core.proofs.Entered.{still-those}
use Rattle.ctl_core.proofs.Steps.{prepared-held}
use Rattle.ctl_core.proofs.WaitingEvents.{WaitIn, held-wait}
use Rattle.ctl_core.proofs.WaitingQueued.{held-behind}
use Rattle.ctl_core.proofs.state.CoreState.hold_prepared.Goals as goal

pub queue_and_show-requires : goal.queue_and_show-requires
queue_and_show-requires c =
    let i = c.self.inside in
    let s : State = record { class = i.class; held = i.cache; claims = i.book.claims; queue = i.queue; awaiting = i.awaiting; out = i.out } in
    let reached : IsReached s = rw (← c.self.view_is) at c.requires.reached in
    let prepared : IsPrepared s c.args.service c.args.prepared = rw (← c.self.view_is) at c.requires.prepared in
    subst (λ more. GoBehind more s.queue) (sym prepared.more_is)
    (held-behind s c.args.version c.args.service reached (rw (← c.self.view_is) at c.requires.newer))

pub invariant_of-self-2 : goal.invariant_of-self-2
invariant_of-self-2 c =
    let i = c.self.inside in
    let s : State = record { class = i.class; held = i.cache; claims = i.book.claims; queue = i.queue; awaiting = i.awaiting; out = i.out } in
    let reached : IsReached s = rw (← c.self.view_is) at c.requires.reached in
    let prepared : IsPrepared s c.args.service c.args.prepared = rw (← c.self.view_is) at c.requires.prepared in
    let state_is = prepared-held s c.args.version c.args.service c.args.prepared _ _ _ _ _ _ prepared
    c.in-Ok-queue_and_show.ensures.cache c.in-Ok-queue_and_show.ensures.queue
    c.reserve.ensures.claims c.settle_prepared.ensures.claims c.key.ensures c.stop_awaiting.ensures in (
      subst (λ (t : State). WaitIn t c.release.new.self) (sym state_is)
          (held-wait s c.args.version c.args.service c.key-2.result.now c.args.prepared.is_lost i.waiting c.release.new.self reached c.self.invariant.0
          (c.key-2.ensures ∙ ap (λ (x : ClaimValue). x.key) prepared.claim_is) prepared.lost_is c.release.ensures),
      still-those i.cache c.queue_and_show.new.cache i.book.entries _ (ap (λ (h : Cached). h.config) c.in-Ok-queue_and_show.ensures.cache)
          (c.settle_prepared.ensures.entries ∙ c.reserve.ensures.entries) c.self.invariant.1,
    )

pub returns-clause-ok : goal.returns-clause-ok
returns-clause-ok c =
    let i = c.self.inside in
    let s : State = record { class = i.class; held = i.cache; claims = i.book.claims; queue = i.queue; awaiting = i.awaiting; out = i.out } in
    let reached : IsReached s = rw (← c.self.view_is) at c.requires.reached in
    let prepared : IsPrepared s c.args.service c.args.prepared = rw (← c.self.view_is) at c.requires.prepared in
    let state_is = prepared-held s c.args.version c.args.service c.args.prepared _ _ _ _ _ _ prepared
    c.in-Ok-queue_and_show.ensures.cache c.in-Ok-queue_and_show.ensures.queue
    c.reserve.ensures.claims c.settle_prepared.ensures.claims c.key.ensures c.stop_awaiting.ensures in
    rw (← c.self.view_is) state_is
