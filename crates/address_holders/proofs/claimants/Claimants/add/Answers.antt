use Rattle.std.specs.Ordering.{nat_cmp}
use Rattle.numbered_items.specs.Index.{numbers_under}
use Rattle.address_holders.proofs.ClaimantLaws.{added-listed, claim-added}
use Rattle.address_holders.proofs.claimants.Claimants.add.Goals as goal

pub invariant_of-self : goal.invariant_of-self
invariant_of-self c =
    added-listed c.self.inside.held _ c.self.inside.by_number _ c.args.number c.args.claim c.insert.ensures.has c.add.ensures.numbers c.self.invariant

pub returns-clause-numbers : goal.returns-clause-numbers
returns-clause-numbers c =
    rw (← c.self.view_is) (claim-added c.args.number c.args.claim (numbers_under nat_cmp c.self.inside.by_number) _ c.add.ensures.numbers)
