use Rattle.std.proofs.Common.{ℕ, Bool, IfSome, IfNone, subst}
use Rattle.number_sets.specs.Least.{IsLeastIn, NonePasses}
use Rattle.address_holders.proofs.HolderLaws.{both, unclaimed-v4, unclaimed-v6}
use Rattle.address_holders.proofs.address_holders.AddressHolders.first_unclaimed.Goals as goal

pub returns-in-V4-clause-some : goal.returns-in-V4-clause-some
returns-in-V4-clause-some c =
    rw (← c.self.view_is)
    (subst (λ (test : ℕ → Bool). IfSome c.first_unclaimed.result (λ n. IsLeastIn test c.args.low c.args.high n))
    (unclaimed-v4 c.args.avoiding (both c.self.inside.v4 c.self.inside.v6) c.args.slot.now c.args.family c.in-V4.is) c.first_unclaimed.ensures.some)

pub returns-in-V4-clause-none : goal.returns-in-V4-clause-none
returns-in-V4-clause-none c =
    rw (← c.self.view_is)
    (subst (λ (test : ℕ → Bool). IfNone c.first_unclaimed.result (NonePasses test c.args.low c.args.high))
    (unclaimed-v4 c.args.avoiding (both c.self.inside.v4 c.self.inside.v6) c.args.slot.now c.args.family c.in-V4.is) c.first_unclaimed.ensures.none)

pub returns-in-V6-clause-some : goal.returns-in-V6-clause-some
returns-in-V6-clause-some c =
    rw (← c.self.view_is)
    (subst (λ (test : ℕ → Bool). IfSome c.first_unclaimed-in-V6.result (λ n. IsLeastIn test c.args.low c.args.high n))
    (unclaimed-v6 c.args.avoiding (both c.self.inside.v4 c.self.inside.v6) c.args.slot.now c.args.family c.in-V6.is) c.first_unclaimed-in-V6.ensures.some)

pub returns-in-V6-clause-none : goal.returns-in-V6-clause-none
returns-in-V6-clause-none c =
    rw (← c.self.view_is)
    (subst (λ (test : ℕ → Bool). IfNone c.first_unclaimed-in-V6.result (NonePasses test c.args.low c.args.high))
    (unclaimed-v6 c.args.avoiding (both c.self.inside.v4 c.self.inside.v6) c.args.slot.now c.args.family c.in-V6.is) c.first_unclaimed-in-V6.ensures.none)
