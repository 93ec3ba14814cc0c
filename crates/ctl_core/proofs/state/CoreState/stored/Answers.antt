use Rattle.std.proofs.Common.{◌≡◌, List, Some, None, refl, sym, ap, subst, ◌∙◌}
use Rattle.kube_model.specs.Keys.{same_key}
use Rattle.claim_index.specs.Claims.{ClaimValue, loses, settled}
use Rattle.object_history.specs.Cache.{Cached}
use Rattle.core_rules.specs.Core.{State, waiting}
use Rattle.core_rules.specs.Replied.{put_terms}
use Rattle.core_keys.specs.Queued.{GoBehind}
use Rattle.ctl_core.specs.Reached.{IsReached}
use Rattle.ctl_core.proofs.Entered.{still-those}
use Rattle.ctl_core.proofs.WaitingQueued.{waiting-behind}
use Rattle.ctl_core.proofs.WaitingTurns.{others-out, stored-waits, stored-is}
use Rattle.ctl_core.proofs.state.CoreState.stored.Goals as goal

pub queue_and_let_wait-requires : goal.queue_and_let_wait-requires
queue_and_let_wait-requires c =
    let i = c.self.inside in
    let s : State = record { class = i.class; held = i.cache; claims = i.book.claims; queue = i.queue; awaiting = i.awaiting; out = Some c.args.put } in
    let reached : IsReached s = rw (← c.self.view_is) at c.requires.reached in
    let others = c.in-Ok-others_where.ensures.keys
    ∙ others-out s reached c.args.put refl c.loses-is_lost.result i.waiting c.self.invariant.0 c.in-Ok-others_where.ensures.ordered in
    subst (λ more. GoBehind more s.queue) (sym others) (waiting-behind c.loses-is_lost.result (same_key c.args.put.key) s reached)

pub invariant_of-self-2 : goal.invariant_of-self-2
invariant_of-self-2 c =
    let i = c.self.inside in
    let s : State = record { class = i.class; held = i.cache; claims = i.book.claims; queue = i.queue; awaiting = i.awaiting; out = Some c.args.put } in
    let reached : IsReached s = rw (← c.self.view_is) at c.requires.reached in
    let others = c.in-Ok-others_where.ensures.keys
    ∙ others-out s reached c.args.put refl c.loses-is_lost.result i.waiting c.self.invariant.0 c.in-Ok-others_where.ensures.ordered in (
      stored-waits s reached c.args.put refl c.args.version c.loses-is_lost.result i.waiting c.queue_and_let_wait.new.waiting c.release_others.new.self
          c.store_put.new.cache
          c.queue_and_let_wait.new.queue c.in-Ok-others_where.more.items c.self.invariant.0
          (λ k. rw (← c.as_ref.ensures.value, ← c.services-services.ensures) (c.in-Ok-queue_and_let_wait.ensures.waiting k))
          (λ k. c.release_others.ensures k)
          c.store_put.ensures c.in-Ok-queue_and_let_wait.ensures.queue others,
      still-those i.cache c.store_put.new.cache i.book.entries _ (ap (λ (h : Cached). h.config) c.store_put.ensures)
          (c.settle_prepared.ensures.entries ∙ c.reserved_claim.ensures.entries) c.self.invariant.1,
    )

pub returns-clause-ok : goal.returns-clause-ok
returns-clause-ok c =
    let i = c.self.inside in
    let s : State = record { class = i.class; held = i.cache; claims = i.book.claims; queue = i.queue; awaiting = i.awaiting; out = Some c.args.put } in
    let reached : IsReached s = rw (← c.self.view_is) at c.requires.reached in
    let others = c.in-Ok-others_where.ensures.keys
    ∙ others-out s reached c.args.put refl c.loses-is_lost.result i.waiting c.self.invariant.0 c.in-Ok-others_where.ensures.ordered in
    let put = c.args.put in
    let unset : i.out ≡ None = rw (← c.self.view_is) at c.requires.out in
    let claim_is = c.in-Ok.ensures.claim in
    let lost_is = c.loses-is_lost.ensures.value ∙ ap (λ (x : ClaimValue). loses x.key x.holding x.terms c.reserved_claim.new.book.claims) claim_is
    ∙ ap (λ (claims : List ClaimValue). loses put.key put.holding (put_terms s.held put) claims) c.reserved_claim.ensures.claims in
    let claims = c.settle_prepared.ensures.claims ∙ ap (λ (x : ClaimValue). settled x.key x.holding x.terms c.reserved_claim.new.book.claims) claim_is
    ∙ ap (λ (claims : List ClaimValue). settled put.key put.holding (put_terms s.held put) claims) c.reserved_claim.ensures.claims in
    rw (← c.self.view_is, unset)
    (stored-is s put c.args.version c.store_put.new.cache c.settle_prepared.new.self.claims c.queue_and_let_wait.new.queue c.in-Ok-others_where.more.items
    c.store_put.ensures claims c.in-Ok-queue_and_let_wait.ensures.queue
    (others ∙ ap (λ lost. waiting lost s.class (same_key put.key) s.queue s.awaiting s.held.services) lost_is))
