use Rattle.std.proofs.Common.{◌&&◌, is_some, ap, ◌∙◌}
use Rattle.std.proofs.lemmas.Result.{IfOk-weaker}
use Rattle.core_rules.specs.Core.{State, is_ready}
use Rattle.core_rules.specs.Take.{listed_and_free}
use Rattle.ctl_core.specs.Reached.{IsReached}
use Rattle.ctl_core.proofs.WaitingQueued.{listed-and-others}
use Rattle.ctl_core.proofs.state.CoreState.listed_and_free.Goals as goal

pub returns : goal.returns
returns c =
    let i = c.self.inside in
    let s : State = record { class = i.class; held = i.cache; claims = i.book.claims; queue = i.queue; awaiting = i.awaiting; out = i.out } in
    let reached : IsReached s = rw (← c.self.view_is) at c.requires.reached in
    let lost_is = rw (← c.self.view_is) at c.requires.lost in
    let keys = rw (c.services.ensures, c.is_configured.ensures, c.is_ready.ensures) at c.listed_and_free.ensures.keys in
    let now = s.held.config_ended && is_some s.held.config in
    rw (← c.self.view_is)
    (IfOk-weaker c.listed_and_free.result _ _
    (λ more is. is ∙ listed-and-others s i.waiting reached c.self.invariant.0 c.listed_and_free.ensures.ordered now c.args.is_lost
    ∙ ap (λ lost. listed_and_free (is_ready s.held) now lost s) lost_is)
    keys)
