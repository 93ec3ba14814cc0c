use Rattle.std.proofs.Common.{◌==◌, length, sym, ap, ◌∙◌}
use Rattle.std.specs.Ordering.{nat_cmp}
use Rattle.numbered_items.specs.Index.{numbers_under}
use Rattle.address_holders.proofs.ClaimantLaws.{emptied-listed, left-listed, claim-dropped}
use Rattle.address_holders.proofs.claimants.Claimants.remove.Goals as goal

pub invariant_of-self : goal.invariant_of-self
invariant_of-self c =
    emptied-listed c.self.inside.held _ c.self.inside.by_number _ c.args.number c.args.claim c.remove-then-is_empty.ensures.has c.remove.ensures.numbers
    (ap (λ ns. length ns == 0) (sym c.numbers.ensures) ∙ sym c.is_empty.ensures ∙ c.if-is_empty.true) c.self.invariant

pub invariant_of-self-else-is_empty : goal.invariant_of-self-else-is_empty
invariant_of-self-else-is_empty c =
    left-listed c.self.inside.held c.self.inside.by_number _ c.args.number c.args.claim c.remove.ensures.numbers
    (ap (λ ns. length ns == 0) (sym c.numbers.ensures) ∙ sym c.is_empty.ensures ∙ c.if-is_empty.false) c.self.invariant

pub returns-then-is_empty : goal.returns-then-is_empty
returns-then-is_empty c = rw (← c.self.view_is)
    (record { numbers = claim-dropped c.args.number c.args.claim (numbers_under nat_cmp c.self.inside.by_number) _ c.remove.ensures.numbers })

pub returns-else-is_empty : goal.returns-else-is_empty
returns-else-is_empty c = rw (← c.self.view_is)
    (record { numbers = claim-dropped c.args.number c.args.claim (numbers_under nat_cmp c.self.inside.by_number) _ c.remove.ensures.numbers })
