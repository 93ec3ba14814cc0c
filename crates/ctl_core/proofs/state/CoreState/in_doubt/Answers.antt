use Rattle.std.proofs.Common.{◌≡◌, List, Some, None, refl, sym, ap, subst, ◌∙◌}
use Rattle.kube_model.specs.declared.key.Key.{Key}
use Rattle.claim_index.specs.Claims.{ClaimValue, doubted}
use Rattle.core_rules.specs.Core.{State}
use Rattle.core_rules.specs.Replied.{put_terms}
use Rattle.ctl_core.specs.Reached.{IsReached}
use Rattle.ctl_core.specs.Waiting.{AreWaiting}
use Rattle.ctl_core.proofs.Entered.{still-those}
use Rattle.ctl_core.proofs.Reaches.{reached-orderly}
use Rattle.ctl_core.proofs.WaitingTurns.{waiting-in_doubt, in_doubt-is}
use Rattle.ctl_core.proofs.state.CoreState.in_doubt.Goals as goal

pub push_new-requires : goal.push_new-requires
push_new-requires c =
    let i = c.self.inside in
    let s : State = record { class = i.class; held = i.cache; claims = i.book.claims; queue = i.queue; awaiting = i.awaiting; out = Some c.args.put } in
    let reached : IsReached s = rw (← c.self.view_is) at c.requires.reached in
    (reached-orderly s reached).out_queue c.args.put refl

pub invariant_of-self-2 : goal.invariant_of-self-2
invariant_of-self-2 c =
    let i = c.self.inside in
    let queue_is = c.in-Ok-push_new.ensures.ok in (
      subst (λ (keys : List Key). AreWaiting i.class i.cache keys i.awaiting c.remove.new.self) (sym queue_is)
          (waiting-in_doubt i.class i.cache i.queue i.awaiting c.args.put.key i.waiting c.remove.new.self c.self.invariant.0 c.remove.ensures),
      still-those i.cache i.cache i.book.entries _ refl (c.doubt_prepared.ensures.entries ∙ c.reserved_claim.ensures.entries) c.self.invariant.1,
    )

pub returns-clause-ok : goal.returns-clause-ok
returns-clause-ok c =
    let i = c.self.inside in
    let s : State = record { class = i.class; held = i.cache; claims = i.book.claims; queue = i.queue; awaiting = i.awaiting; out = Some c.args.put } in
    let queue_is = c.in-Ok-push_new.ensures.ok in
    let put = c.args.put in
    let unset : i.out ≡ None = rw (← c.self.view_is) at c.requires.out in
    let claims_are : c.doubt_prepared.new.self.claims ≡ doubted put.key put.holding (put_terms s.held put) s.claims = c.doubt_prepared.ensures.claims
    ∙ ap (λ (x : ClaimValue). doubted x.key x.holding x.terms c.reserved_claim.new.book.claims) c.in-Ok.ensures.claim
    ∙ ap (doubted put.key put.holding (put_terms s.held put)) c.reserved_claim.ensures.claims in
    rw (← c.self.view_is, unset) (in_doubt-is s put c.doubt_prepared.new.self.claims c.push_new.new.keys claims_are queue_is)
