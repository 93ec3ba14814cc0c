use Rattle.std.proofs.Common.{sym}
use Rattle.numbered_items.proofs.NumberedLaws.{ascending-items, lookup-items, items-removed, slots-removed, lookup-not_given, filter-not_given}
use Rattle.numbered_items.proofs.numbered_list.NumberedList.remove.Goals as goal

pub invariant_of-self : goal.invariant_of-self
invariant_of-self g c = (
  c.remove.ensures.ordered,
  rw c.remove.ensures.entries (slots-removed c.self.inside.next _ c.self.inside.slots.entries c.self.invariant.1),
  c.self.invariant.2,
)

pub returns-then-number-self-clause-item : goal.returns-then-number-self-clause-item
returns-then-number-self-clause-item g c =
    rw (← c.self.view_is) (sym (lookup-not_given c.self.inside.next c.args.number c.self.inside.slots.entries c.if-number-self.true c.self.invariant.1))

pub returns-then-number-self-clause-items : goal.returns-then-number-self-clause-items
returns-then-number-self-clause-items g c =
    rw (← c.self.view_is) (sym (filter-not_given c.self.inside.next c.args.number c.self.inside.slots.entries c.if-number-self.true c.self.invariant.1))

pub returns-then-number-self-clause-ascending : goal.returns-then-number-self-clause-ascending
returns-then-number-self-clause-ascending g c = rw (← c.self.view_is) (ascending-items c.self.inside.slots.entries c.self.invariant.0)

pub returns-clause-item : goal.returns-clause-item
returns-clause-item g c =
    rw (c.flatten.ensures, c.remove.ensures.value, ← c.self.view_is)
    (sym (lookup-items c.self.inside.next c.args.number c.self.inside.slots.entries c.self.invariant.1))

pub returns-clause-items : goal.returns-clause-items
returns-clause-items g c = rw (c.remove.ensures.entries, ← c.self.view_is) (items-removed c.args.number c.self.inside.slots.entries c.self.invariant.0)

pub returns-clause-ascending : goal.returns-clause-ascending
returns-clause-ascending g c = rw (← c.self.view_is) (ascending-items c.self.inside.slots.entries c.self.invariant.0)
