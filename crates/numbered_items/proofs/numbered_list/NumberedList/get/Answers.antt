use Rattle.std.proofs.Common.{sym, ap, ◌∙◌}
use Rattle.std.specs.Option.{option_copied, option_flatten}
use Rattle.numbered_items.proofs.NumberedLaws.{lookup-items, ascending-items}
use Rattle.numbered_items.proofs.numbered_list.NumberedList.get.Goals as goal

pub returns-in_err-get-clause-item : goal.returns-in_err-get-clause-item
returns-in_err-get-clause-item g c =
    rw (c.from_residual.ensures, ← c.self.view_is)
    (sym (lookup-items c.self.inside.next c.args.number c.self.inside.slots.entries c.self.invariant.1
    ∙ ap option_flatten (sym c.get.ensures.value ∙ ap option_copied c.in_err-get.was)))

pub returns-in_err-get-clause-ascending : goal.returns-in_err-get-clause-ascending
returns-in_err-get-clause-ascending g c = rw (← c.self.view_is) (ascending-items c.self.inside.slots.entries c.self.invariant.0)

pub returns-clause-item : goal.returns-clause-item
returns-clause-item g c =
    rw (c.as_ref.ensures.value, ← c.self.view_is)
    (sym (lookup-items c.self.inside.next c.args.number c.self.inside.slots.entries c.self.invariant.1
    ∙ ap option_flatten (sym c.get.ensures.value ∙ ap option_copied c.in_ok-get.was)))

pub returns-clause-ascending : goal.returns-clause-ascending
returns-clause-ascending g c = rw (← c.self.view_is) (ascending-items c.self.inside.slots.entries c.self.invariant.0)
