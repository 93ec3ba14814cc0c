use Rattle.std.proofs.Common.{◌≡◌, ◌≤◌, Some, sym, subst, ◌∙◌}
use Rattle.full_entries.specs.declared.entries.Entry.{Entry}
use Rattle.full_entries.proofs.order.FamilyOrder.finds.Goals as goal

pub returns-else-ne : goal.returns-else-ne
returns-else-ne c =
    λ found e at of n from upto.
    let one : Some c.in-Some.entry ≡ Some e = c.in-Some.ensures ∙ at in
    let is : c.in-Some.entry ≡ e = cc in
    c.finds_entry.ensures found n (subst (λ (x : Entry). x.low ≤ n) (sym is) from) (subst (λ (x : Entry). n ≤ x.high) (sym is) upto)
