use Rattle.std.proofs.Common.{◌≡◌, ◌-◌, length, arith}
use mathlib.Core.List.{IsPrefix}
use Rattle.shown_board.proofs.Nexts.{next_is, next_value}
use Rattle.shown_board.proofs.posted.PostedAbsorbStep.absorb_first.Goals as goal

pub invariant_of-self-2 : goal.invariant_of-self-2
invariant_of-self-2 g c =
    let one : length c.operation.inside.front - 1 ≡ length c.self.inside.front = omega (arith, c.len.ensures, c.len-2.ensures, c.if-len.false) in
    let begins : IsPrefix c.self.inside.front c.operation.inside.front = c.if-not-begins.ensures in
    let next = next_is c.self.inside.front c.operation.inside.front c.operation.inside.event c.operation.invariant begins one in
    rw (c.in_ok-follow.ensures.ok, c.replace.ensures.after, c.again.ensures)
    (next_value g.T.Follower.after g.T.Follower.start c.self.inside.value c.self.inside.front
    c.operation.inside.front c.operation.inside.event c.self.invariant next)

pub returns-clause-absorbed : goal.returns-clause-absorbed
returns-clause-absorbed g c =
    let one : length c.operation.inside.front - 1 ≡ length c.self.inside.front = omega (arith, c.len.ensures, c.len-2.ensures, c.if-len.false) in
    let begins : IsPrefix c.self.inside.front c.operation.inside.front = c.if-not-begins.ensures in
    let next = next_is c.self.inside.front c.operation.inside.front c.operation.inside.event c.operation.invariant begins one in
    rw (c.replace.ensures.after, c.again.ensures, ← c.self.view_is, ← c.operation.view_is) next
