use Rattle.std.proofs.Common.{arith, ◌+◌, ◌<◌, ◌^◌}
use Rattle.numbered_items.proofs.NumberedLaws.{items-reserved, slots-reserved}
use Rattle.numbered_items.proofs.numbered_list.NumberedList.reserve.Goals as goal

pub invariant_of-self-2 : goal.invariant_of-self-2
invariant_of-self-2 g c =
    let one : c.self.inside.next + 1 < 2 ^ 64 = omega (arith, c.if-self.false, c.self.invariant.2) in (
      c.insert.ensures.ordered,
      rw c.in_ok-insert.ensures.entries (slots-reserved c.self.inside.next c.self.inside.slots.entries one c.self.invariant.1),
      c.self.invariant.2,
    )

pub returns-clause-items : goal.returns-clause-items
returns-clause-items g c =
    rw (c.in_ok-insert.ensures.entries, ← c.self.view_is) (items-reserved c.self.inside.next c.self.inside.slots.entries c.self.invariant.1)
