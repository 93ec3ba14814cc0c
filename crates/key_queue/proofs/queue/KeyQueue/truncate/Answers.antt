use Rattle.std.proofs.Common.{sym, subst}
use Rattle.key_queue.specs.Queue.{in_order, AreDistinct}
use Rattle.key_queue.proofs.QueueLaws.{cut_behind, distinct_take}
use Rattle.key_queue.proofs.queue.KeyQueue.truncate.Goals as goal

pub invariant_of-self-else-len-in_front : goal.invariant_of-self-else-len-in_front
invariant_of-self-else-len-in_front g c =
    let front = c.self.inside.front.keys in
    let back = c.self.inside.back.keys in
    let cut =
    cut_behind front back _ c.args.len c.len-in_front.result c.len-in_front.ensures.len c.if-len-in_front.false c.truncate-else-len-in_front.ensures.keys in
    subst (AreDistinct g.K.PartialEq.eq) (sym cut) (distinct_take g.K.PartialEq.eq c.args.len (in_order front back) c.self.invariant)
