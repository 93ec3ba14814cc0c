use Rattle.std.proofs.Common.{rules, sym, subst}
use Rattle.std.proofs.lemmas.Fn.{filter_same}
use Rattle.key_queue.specs.Queue.{in_order, AreDistinct}
use Rattle.key_queue.proofs.QueueLaws.{filter-in_order, distinct_filter}
use Rattle.key_queue.proofs.queue.KeyQueue.retain.Goals as goal

pub invariant_of-self : goal.invariant_of-self
invariant_of-self g c =
    let passes = g.T.KeyTest.passes c.args.test.now in
    let front = c.self.inside.front.keys in
    let back = c.self.inside.back.keys in
    rw (
      filter_same _ passes _ (λ x b f' k. search rules) _ _ c.retain.ensures.filtered,
      filter_same _ passes _ (λ x b f' k. search rules) _ _ c.retain-2.ensures.filtered,
    )
    (subst (AreDistinct g.K.PartialEq.eq) (filter-in_order passes front back) (distinct_filter g.K.PartialEq.eq passes (in_order front back) c.self.invariant))

pub returns : goal.returns
returns g c =
    let passes = g.T.KeyTest.passes c.args.test.now in
    rw (
      ← c.self.view_is,
      filter_same _ passes _ (λ x b f' k. search rules) _ _ c.retain.ensures.filtered,
      filter_same _ passes _ (λ x b f' k. search rules) _ _ c.retain-2.ensures.filtered,
    )
    (sym (filter-in_order passes c.self.inside.front.keys c.self.inside.back.keys))
