use Rattle.std.proofs.Common.{sym, ◌∙◌}
use Rattle.std.proofs.lemmas.Bool.{eqb-true}
use Rattle.full_entries.proofs.PlaceLaws.{found-between}
use Rattle.full_entries.proofs.order.FamilyOrder.finds_entry.Goals as goal

pub returns-then-is_at : goal.returns-then-is_at
returns-then-is_at c =
    λ same n from upto.
    found-between c.args.self.now c.args.place c.args.entry.now.low c.args.entry.now.high n
    (sym c.place_at-found.ensures ∙ c.is_at.ensures c.if-is_at.true)
    (sym c.begun-begun.ensures ∙ eqb-true c.begun-begun.result c.begun-ended.result same ∙ c.begun-ended.ensures) from upto
