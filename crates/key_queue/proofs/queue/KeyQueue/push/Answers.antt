use Rattle.std.proofs.Common.{sym, ◌∙◌, ap, subst}
use Rattle.key_queue.specs.Queue.{in_order, AreDistinct}
use Rattle.key_queue.proofs.QueueLaws.{queued_behind, distinct_queued}
use Rattle.key_queue.proofs.queue.KeyQueue.push.Goals as goal

pub invariant_of-self : goal.invariant_of-self
invariant_of-self g c =
    let eq = g.K.PartialEq.eq in
    let front = c.self.inside.front.keys in
    let back = c.self.inside.back.keys in
    subst (AreDistinct eq)
    (queued_behind eq front back c.args.key (sym c.contains.ensures ∙ c.if-not-contains.true) ∙ ap (in_order front) (sym c.in_ok-insert.ensures.keys))
    (distinct_queued g.met.K.Eq.laws (in_order front back) c.args.key c.self.invariant)
