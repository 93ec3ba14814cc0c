use Rattle.std.proofs.Common.{◌≡◌, ◌∙◌}
use Rattle.std.specs.BTreeMap.{is_at}
use Rattle.key_queue.proofs.TurnLaws.{in_turn-has}
use Rattle.key_queue.proofs.list.KeyList.contains.Goals as goal

pub returns : goal.returns
returns g c =
    let same : g.K.PartialEq.eq c.args.key.now ≡ is_at (g.K.Ord.cmp c.args.key.now) = λ i k. g.met.K.Ord.matches_eq c.args.key.now k i in
    rw (same, ← c.self.view_is) (c.contains_key.ensures ∙ in_turn-has (is_at (g.K.Ord.cmp c.args.key.now)) c.self.inside.numbers.entries)
