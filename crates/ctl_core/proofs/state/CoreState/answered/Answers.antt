use Rattle.std.proofs.Common.{◌≡◌, Some, sym, ◌∙◌}
use Rattle.core_rules.specs.Core.{State}
use Rattle.ctl_core.proofs.WaitingTurns.{reply-is}
use Rattle.ctl_core.proofs.state.CoreState.answered.Goals as goal

pub replied-requires-clause-reached : goal.replied-requires-clause-reached
replied-requires-clause-reached c =
    let out_is = sym c.take.ensures.value ∙ c.in-Some.is in
    rw (← out_is) (rw (← c.self.view_is) at c.requires.reached)

pub returns-in-Ok-clause-ok : goal.returns-in-Ok-clause-ok
returns-in-Ok-clause-ok c =
    let i = c.self.inside in
    let s : State = record { class = i.class; held = i.cache; claims = i.book.claims; queue = i.queue; awaiting = i.awaiting; out = i.out } in
    let out_is : s.out ≡ Some c.in-Some.put = sym c.take.ensures.value ∙ c.in-Some.is in
    rw (← c.self.view_is) (c.in-Ok.ensures.ok ∙ reply-is s c.in-Some.put c.take.new.self c.args.reply out_is)
