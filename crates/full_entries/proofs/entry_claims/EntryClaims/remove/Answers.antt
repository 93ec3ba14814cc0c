use Rattle.full_entries.proofs.FullLaws.{left-full}
use Rattle.full_entries.proofs.entry_claims.EntryClaims.remove.Goals as goal

pub invariant_of-self : goal.invariant_of-self
invariant_of-self c =
    left-full c.self.inside.claims.items c.args.number c.self.inside.entries c.forget_claim.new.entries c.remove.new.self.items c.remove.ensures
    c.self.invariant c.forget_claim.ensures.entries c.forget_claim.ensures.fewer c.forget_claim.ensures.gone
