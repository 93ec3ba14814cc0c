use Rattle.address_holders.proofs.ClaimantLaws.{runs-within, least-beyond, none-beyond}
use Rattle.address_holders.proofs.claimants.Claimants.first_beyond.Goals as goal

pub first_beyond-requires : goal.first_beyond-requires
first_beyond-requires c =
    runs-within c.self.inside.held c.fewer.inside.held c.self.inside.by_number c.fewer.inside.by_number c.self.invariant c.fewer.invariant
    (rw (← c.self.view_is, ← c.fewer.view_is) at c.requires)

pub returns-clause-some : goal.returns-clause-some
returns-clause-some c =
    rw (← c.self.view_is, ← c.fewer.view_is)
    (least-beyond c.self.inside.held c.fewer.inside.held c.self.inside.by_number c.fewer.inside.by_number c.self.invariant c.fewer.invariant
    c.first_beyond.result c.args.low c.args.high c.first_beyond.ensures.some)

pub returns-clause-none : goal.returns-clause-none
returns-clause-none c =
    rw (← c.self.view_is, ← c.fewer.view_is)
    (none-beyond c.self.inside.held c.fewer.inside.held c.self.inside.by_number c.fewer.inside.by_number c.self.invariant c.fewer.invariant
    c.first_beyond.result c.args.low c.args.high c.first_beyond.ensures.none)
