use Rattle.full_entries.proofs.entry_claims.EntryClaims.first_open.Goals as goal

pub returns-clause-full : goal.returns-clause-full
returns-clause-full c =
    rw (← c.self.view_is) (λ i e from below at. c.self.invariant i e (c.first_unknown.ensures.known i from below) at)
