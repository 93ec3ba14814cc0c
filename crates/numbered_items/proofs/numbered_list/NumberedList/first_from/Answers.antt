use Rattle.std.proofs.Common.{sym, ap, ◌∙◌, ◌<◌, arith}
use Rattle.std.specs.Option.{option_copied, option_map}
use Rattle.numbered_items.proofs.NumberedLaws.{first-from, first_item, first-given, ascending-items}
use Rattle.numbered_items.proofs.numbered_list.NumberedList.first_from.Goals as goal

pub returns-in_err-found-clause-item : goal.returns-in_err-found-clause-item
returns-in_err-found-clause-item g c =
    rw (c.from_residual.ensures, ← c.self.view_is)
    (sym (first-from c.self.inside.next c.args.number c.self.inside.slots.entries c.self.invariant.0 c.self.invariant.1
    ∙ ap first_item (sym (c.range.ensures.between tt) ∙ c.in_err-found.ensures.steps.0)))

pub returns-in_err-found-clause-ascending : goal.returns-in_err-found-clause-ascending
returns-in_err-found-clause-ascending g c = rw (← c.self.view_is) (ascending-items c.self.inside.slots.entries c.self.invariant.0)

pub returns-in_err-item-clause-item : goal.returns-in_err-item-clause-item
returns-in_err-item-clause-item g c =
    rw (c.from_residual-in_err-item.ensures, ← c.self.view_is)
    (sym (first-from c.self.inside.next c.args.number c.self.inside.slots.entries c.self.invariant.0 c.self.invariant.1
    ∙ ap first_item (sym (c.range.ensures.between tt) ∙ c.in_ok-found.ensures.steps)
    ∙ ap (option_map (λ x. (c.in_ok-found.found.now, x))) (sym c.as_ref.ensures.value ∙ ap option_copied c.in_err-item.was)))

pub returns-in_err-item-clause-ascending : goal.returns-in_err-item-clause-ascending
returns-in_err-item-clause-ascending g c = rw (← c.self.view_is) (ascending-items c.self.inside.slots.entries c.self.invariant.0)

pub returns-clause-item : goal.returns-clause-item
returns-clause-item g c =
    rw (← c.self.view_is)
    (sym (first-from c.self.inside.next c.args.number c.self.inside.slots.entries c.self.invariant.0 c.self.invariant.1
    ∙ ap first_item (sym (c.range.ensures.between tt) ∙ c.in_ok-found.ensures.steps)
    ∙ ap (option_map (λ x. (c.in_ok-found.found.now, x))) (sym c.as_ref.ensures.value ∙ ap option_copied c.in_ok-item.was)))

pub returns-clause-within : goal.returns-clause-within
returns-clause-within g c =
    let below : c.in_ok-found.found.now < c.self.inside.next =
    first-given c.self.inside.next c.args.number c.self.inside.slots.entries c.in_ok-found.found.now c.in_ok-found.slot.now c.in_ok-item.item.now
    _ c.self.invariant.1
    (sym (c.range.ensures.between tt) ∙ c.in_ok-found.ensures.steps) (sym c.as_ref.ensures.value ∙ ap option_copied c.in_ok-item.was) in
    omega (arith, below, c.self.invariant.2)

pub returns-clause-ascending : goal.returns-clause-ascending
returns-clause-ascending g c = rw (← c.self.view_is) (ascending-items c.self.inside.slots.entries c.self.invariant.0)
