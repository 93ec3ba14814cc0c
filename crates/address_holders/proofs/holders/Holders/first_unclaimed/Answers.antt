use Rattle.std.proofs.Common.{ℕ, List, not, ◌&&◌, IfSome, IfNone, sym, ap, ◌∙◌, subst}
use Rattle.mlb_base.specs.Items.{is_nil}
use Rattle.number_sets.specs.Blocks.{is_edge}
use Rattle.number_sets.specs.Least.{IsLeastIn, NonePasses}
use Rattle.address_holders.specs.Holders.{claims_at, is_open_at}
use Rattle.address_holders.proofs.SlotLaws.{slot-absent, of-found}
use Rattle.address_holders.proofs.holders.Holders.first_unclaimed.Goals as goal

pub returns-in-Some-clause-some : goal.returns-in-Some-clause-some
returns-in-Some-clause-some c =
    rw (← c.self.view_is)
    (of-found c.args.slot.now c.self.inside.by_slot.entries c.in-Some.claimants.now c.in-Some.ensures.value
    (λ claimants. IfSome c.first_unclaimed.result (λ n. IsLeastIn (is_open_at c.args.inside claimants) c.args.low c.args.high n))
    c.first_unclaimed.ensures.some)

pub returns-in-Some-clause-none : goal.returns-in-Some-clause-none
returns-in-Some-clause-none c =
    rw (← c.self.view_is)
    (of-found c.args.slot.now c.self.inside.by_slot.entries c.in-Some.claimants.now c.in-Some.ensures.value
    (λ claimants. IfNone c.first_unclaimed.result (NonePasses (is_open_at c.args.inside claimants) c.args.low c.args.high)) c.first_unclaimed.ensures.none)

pub returns-in-None-clause-some : goal.returns-in-None-clause-some
returns-in-None-clause-some c =
    rw (← c.self.view_is)
    (subst (λ (f : ℕ → List ℕ).
    IfSome c.first_unclaimed-in-None.result (λ n. IsLeastIn (λ m. not (c.args.inside && is_edge m) && is_nil (f m)) c.args.low c.args.high n))
    (c.new-none.ensures.numbers ∙ sym (ap claims_at (slot-absent c.args.slot.now c.self.inside.by_slot.entries c.in-None.ensures.value)))
    c.first_unclaimed-in-None.ensures.some)

pub returns-in-None-clause-none : goal.returns-in-None-clause-none
returns-in-None-clause-none c =
    rw (← c.self.view_is)
    (subst (λ (f : ℕ → List ℕ).
    IfNone c.first_unclaimed-in-None.result (NonePasses (λ m. not (c.args.inside && is_edge m) && is_nil (f m)) c.args.low c.args.high))
    (c.new-none.ensures.numbers ∙ sym (ap claims_at (slot-absent c.args.slot.now c.self.inside.by_slot.entries c.in-None.ensures.value)))
    c.first_unclaimed-in-None.ensures.none)
