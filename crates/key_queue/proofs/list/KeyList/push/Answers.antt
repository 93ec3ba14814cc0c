use Rattle.std.proofs.Common.{◌≡◌, false, sym}
use Rattle.std.specs.BTreeMap.{is_at}
use Rattle.std.specs.List.{list_any}
use Rattle.key_queue.specs.Turn.{in_turn}
use Rattle.key_queue.proofs.QueueLaws.{queued-there, queued-new}
use Rattle.key_queue.proofs.TurnLaws.{in_turn-came, within, absent}
use Rattle.key_queue.proofs.list.KeyList.push.Goals as goal

pub returns-then-contains-clause-ok : goal.returns-then-contains-clause-ok
returns-then-contains-clause-ok g c = sym (queued-there g.K.PartialEq.eq c.args.self.now c.args.key (sym c.if-contains.ensures))

pub invariant_of-self : goal.invariant_of-self
invariant_of-self g c =
    (c.insert.ensures.ordered, rw c.in_err-insert.ensures.err c.self.invariant.1)

pub invariant_of-self-2 : goal.invariant_of-self-2
invariant_of-self-2 g c = (
  c.insert.ensures.ordered,
  rw c.in_ok-insert.ensures.entries (within g.K.Ord.cmp c.args.key c.self.inside.next c.self.inside.numbers.entries c.self.invariant.1),
)

pub returns-clause-ok : goal.returns-clause-ok
returns-clause-ok g c =
    let same : g.K.PartialEq.eq c.args.key ≡ is_at (g.K.Ord.cmp c.args.key) = λ i k. g.met.K.Ord.matches_eq c.args.key k i in
    let none : list_any (is_at (g.K.Ord.cmp c.args.key)) (in_turn c.self.inside.numbers.entries) ≡ false =
    rw (← same, c.self.view_is) (sym c.if-contains.ensures) in
    rw (queued-new g.K.PartialEq.eq c.args.self.now c.args.key (sym c.if-contains.ensures), c.in_ok-insert.ensures.entries, ← c.self.view_is)
    (in_turn-came g.K.Ord.cmp c.args.key c.self.inside.next c.self.inside.numbers.entries
    (absent (is_at (g.K.Ord.cmp c.args.key)) c.self.inside.numbers.entries none) c.self.invariant.1)
