use Rattle.std.proofs.Common.{ℕ, Bool, IfSome, IfNone, subst}
use Rattle.number_sets.specs.Least.{IsLeastIn, NonePasses}
use Rattle.address_holders.specs.declared.slot.NumberedSlot.TheVariants.{Any as AnyNumbered}
use Rattle.claim_index.specs.Slots.{Any}
use Rattle.claim_index.proofs.IndexReading.{unclaimed-is}
use Rattle.claim_index.proofs.index.ClaimIndex.first_unclaimed.Goals as goal

pub returns-clause-some : goal.returns-clause-some
returns-clause-some c =
    rw (← c.self.view_is)
    (subst (λ (test : ℕ → Bool). IfSome c.first_unclaimed.result (λ n. IsLeastIn test c.args.low c.args.high n)) (unclaimed-is c.args.avoiding
    c.self.inside.claims.items c.self.inside.holders AnyNumbered Any (c.self.invariant.holders Any) c.args.family) c.first_unclaimed.ensures.some)

pub returns-clause-none : goal.returns-clause-none
returns-clause-none c =
    rw (← c.self.view_is)
    (subst (λ (test : ℕ → Bool). IfNone c.first_unclaimed.result (NonePasses test c.args.low c.args.high))
    (unclaimed-is c.args.avoiding c.self.inside.claims.items
    c.self.inside.holders AnyNumbered Any (c.self.invariant.holders Any) c.args.family) c.first_unclaimed.ensures.none)
