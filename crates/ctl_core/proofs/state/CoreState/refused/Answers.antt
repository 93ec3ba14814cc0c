use Rattle.std.proofs.Common.{◌≡◌, List, Some, None, refl, sym, subst}
use Rattle.kube_model.specs.declared.key.Key.{Key}
use Rattle.core_rules.specs.Core.{State}
use Rattle.ctl_core.specs.Reached.{IsReached}
use Rattle.ctl_core.specs.Waiting.{AreWaiting}
use Rattle.ctl_core.proofs.Reaches.{reached-orderly}
use Rattle.ctl_core.proofs.WaitingTurns.{waiting-refused}
use Rattle.ctl_core.proofs.state.CoreState.refused.Goals as goal

pub await_newer-requires : goal.await_newer-requires
await_newer-requires c =
    let i = c.self.inside in
    let s : State = record { class = i.class; held = i.cache; claims = i.book.claims; queue = i.queue; awaiting = i.awaiting; out = Some c.args.put } in
    let reached : IsReached s = rw (← c.self.view_is) at c.requires.reached in
    (reached-orderly s reached).out_free c.args.put refl

pub invariant_of-self-2 : goal.invariant_of-self-2
invariant_of-self-2 c =
    let i = c.self.inside in
    let awaiting_are = c.in-Ok.ensures.ok in (
      subst (λ (keys : List Key). AreWaiting i.class i.cache i.queue keys c.remove.new.self) (sym awaiting_are)
          (waiting-refused i.class i.cache i.queue i.awaiting c.args.put.key i.waiting c.remove.new.self c.self.invariant.0 c.remove.ensures),
      c.self.invariant.1,
    )

pub returns-clause-ok : goal.returns-clause-ok
returns-clause-ok c =
    let i = c.self.inside in
    let awaiting_are = c.in-Ok.ensures.ok in
    let unset : i.out ≡ None = rw (← c.self.view_is) at c.requires.out in
    rw (← c.self.view_is, unset, awaiting_are) refl
