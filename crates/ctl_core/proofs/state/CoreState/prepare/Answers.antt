use Rattle.std.proofs.Common.{cond, [], ◌++◌, ap, ◌∙◌}
use Rattle.claim_index.specs.Claims.{ClaimValue, loses}
use Rattle.core_rules.specs.Core.{State, is_ready}
use Rattle.core_rules.specs.Keys.{own_key}
use Rattle.core_rules.specs.Take.{own_and_waiting}
use Rattle.ctl_core.specs.Holding.{IsPrepared}
use Rattle.ctl_core.specs.Reached.{IsReached}
use Rattle.core_keys.specs.Picked.{others_where}
use Rattle.ctl_core.proofs.WaitingQueued.{own-and-others}
use Rattle.ctl_core.proofs.state.CoreState.prepare.Goals as goal

pub returns : goal.returns
returns c =
    let i = c.self.inside in
    let s : State = record { class = i.class; held = i.cache; claims = i.book.claims; queue = i.queue; awaiting = i.awaiting; out = i.out } in
    let reached : IsReached s = rw (← c.self.view_is) at c.requires in
    let service = c.args.service.now in
    let lost = c.loses-is_lost.result in
    let lost_is = c.loses-is_lost.ensures.value ∙ ap (λ (x : ClaimValue). loses x.key x.holding x.terms s.claims) c.in_ok-claim.ensures in
    let prepared : IsPrepared s service (record { claim = c.in_ok-claim.claim; is_lost = lost; more = c.in-Ok.more }) = record {
      claim_is = c.in_ok-claim.ensures;
      lost_is = lost_is;
      more_is = c.in-Ok.ensures.keys
          ∙ ap (λ ready. cond ready (own_key service.key s.queue ++ others_where lost service.key i.waiting.keys) []) c.is_ready.ensures
          ∙ own-and-others s i.waiting reached c.self.invariant.0 c.in-Ok.ensures.ordered lost service.key
          ∙ ap (λ l. own_and_waiting (is_ready s.held) l s service.key) lost_is;
    } in
    rw (← c.self.view_is) prepared
