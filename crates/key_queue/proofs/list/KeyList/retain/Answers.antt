use Rattle.std.proofs.Common.{rules}
use Rattle.std.proofs.lemmas.Map.Made.{filter_same_pairs}
use Rattle.key_queue.proofs.TurnLaws.{in_turn-kept, within-kept}
use Rattle.key_queue.proofs.list.KeyList.retain.Goals as goal

pub invariant_of-self : goal.invariant_of-self
invariant_of-self g c =
    let kept = filter_same_pairs _ (λ e. g.T.KeyTest.passes c.args.test.now e.0) _ (λ k v b w f' t. search rules) _ _ c.retain.ensures.filtered in (
      c.retain.ensures.ordered,
      rw kept (within-kept c.self.inside.next (λ e. g.T.KeyTest.passes c.args.test.now e.0) c.self.inside.numbers.entries c.self.invariant.1),
    )

pub returns : goal.returns
returns g c =
    rw (filter_same_pairs _ (λ e. g.T.KeyTest.passes c.args.test.now e.0) _ (λ k v b w f' t. search rules) _ _ c.retain.ensures.filtered, ← c.self.view_is)
    (in_turn-kept (g.T.KeyTest.passes c.args.test.now) c.self.inside.numbers.entries)
