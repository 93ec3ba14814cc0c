use Rattle.std.proofs.Common.{not, ap, IfSome, IfNone}
use Rattle.mlb_base.specs.Items.{is_nil}
use Rattle.number_sets.specs.Least.{IsLeastIn, NonePasses}
use Rattle.address_holders.specs.Holders.{claims_at}
use Rattle.address_holders.proofs.SlotLaws.{slot-absent, of-found}
use Rattle.address_holders.proofs.holders.Holders.first_claimed.Goals as goal

pub returns-in_err-get-clause-none : goal.returns-in_err-get-clause-none
returns-in_err-get-clause-none c =
    rw (c.from_residual.ensures, ← c.self.view_is)
    (λ m from to. ap (λ claimants. not (is_nil (claims_at claimants m))) (slot-absent c.args.slot.now c.self.inside.by_slot.entries c.in_err-get.ensures.value))

pub returns-clause-some : goal.returns-clause-some
returns-clause-some c =
    rw (← c.self.view_is)
    (of-found c.args.slot.now c.self.inside.by_slot.entries c.in_ok-get.field-0.now c.in_ok-get.ensures.value
    (λ claimants. IfSome c.first_claimed.result (λ n. IsLeastIn (λ m. not (is_nil (claims_at claimants m))) c.args.low c.args.high n))
    c.first_claimed.ensures.some)

pub returns-clause-none : goal.returns-clause-none
returns-clause-none c =
    rw (← c.self.view_is)
    (of-found c.args.slot.now c.self.inside.by_slot.entries c.in_ok-get.field-0.now c.in_ok-get.ensures.value
    (λ claimants. IfNone c.first_claimed.result (NonePasses (λ m. not (is_nil (claims_at claimants m))) c.args.low c.args.high)) c.first_claimed.ensures.none)
