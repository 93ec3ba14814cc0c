use Rattle.std.proofs.Common.{◌≡◌}
use Rattle.std.specs.BTreeMap.{is_at}
use Rattle.key_queue.proofs.TurnLaws.{in_turn-taken, within-taken}
use Rattle.key_queue.proofs.list.KeyList.remove.Goals as goal

pub invariant_of-self : goal.invariant_of-self
invariant_of-self g c = (
  c.remove-number.ensures.ordered,
  rw c.remove-number.ensures.entries (within-taken c.self.inside.next (is_at (g.K.Ord.cmp c.args.key.now)) c.self.inside.numbers.entries c.self.invariant.1),
)

pub returns : goal.returns
returns g c =
    let same : g.K.PartialEq.eq c.args.key.now ≡ is_at (g.K.Ord.cmp c.args.key.now) = λ i k. g.met.K.Ord.matches_eq c.args.key.now k i in
    rw (same, c.remove-number.ensures.entries, ← c.self.view_is)
    (in_turn-taken g.met.K.Ord.total c.args.key.now c.self.inside.numbers.entries c.self.invariant.0)
