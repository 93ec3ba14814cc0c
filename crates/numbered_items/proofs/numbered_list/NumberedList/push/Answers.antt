use Rattle.std.proofs.Common.{rules, ◌+◌, ◌<◌, ◌^◌, Some, is_some, sym, ap, ◌∙◌}
use Rattle.std.specs.Option.{option_copied_mut}
use Rattle.numbered_items.proofs.NumberedLaws.{items-pushed, slots-pushed, one-more, fresh}
use Rattle.numbered_items.proofs.numbered_list.NumberedList.push.Goals as goal

pub overflow_add-self : goal.overflow_add-self
overflow_add-self g c =
    let some = ap is_some (sym c.get_mut.ensures.value ∙ ap option_copied_mut c.unwrap.ensures) in
    let below : c.self.inside.next + 1 < 2 ^ 64 = one-more c.self.inside.next c.self.inside.slots.entries c.self.invariant.1 some in
    search (rules, below)

pub invariant_of-self : goal.invariant_of-self
invariant_of-self g c =
    let some = ap is_some (sym c.get_mut.ensures.value ∙ ap option_copied_mut c.unwrap.ensures) in
    let written = c.get_mut.follows.holds (Some c.args.item) in (
      written.4,
      rw written.0 (slots-pushed c.self.inside.next c.self.inside.slots.entries c.args.item c.self.invariant.0 c.self.invariant.1 some),
      one-more c.self.inside.next c.self.inside.slots.entries c.self.invariant.1 some,
    )

pub returns-clause-items : goal.returns-clause-items
returns-clause-items g c =
    let some = ap is_some (sym c.get_mut.ensures.value ∙ ap option_copied_mut c.unwrap.ensures) in
    let written = c.get_mut.follows.holds (Some c.args.item) in
    rw (written.0, ← c.self.view_is) (items-pushed c.self.inside.next c.self.inside.slots.entries c.args.item c.self.invariant.0 c.self.invariant.1 some)

pub returns-clause-fresh : goal.returns-clause-fresh
returns-clause-fresh g c = rw (← c.self.view_is) (fresh c.self.inside.next c.self.inside.slots.entries c.self.invariant.1)
