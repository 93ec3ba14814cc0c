use Rattle.std.proofs.Common.{◌≡◌, ap, sym}
use Rattle.address_holders.specs.Holders.{claims_at}
use Rattle.address_holders.proofs.SlotLaws.{slot-absent, of-found}
use Rattle.address_holders.proofs.holders.Holders.numbers.Goals as goal

pub returns-in-Some : goal.returns-in-Some
returns-in-Some c =
    rw (← c.self.view_is)
    (of-found c.args.slot.now c.self.inside.by_slot.entries c.in-Some.claimants.now c.in-Some.ensures.value
    (λ claimants. c.numbers.result.now ≡ claims_at claimants c.args.number) c.numbers.ensures)

pub returns-in-None : goal.returns-in-None
returns-in-None c =
    rw (← c.self.view_is)
    (sym (ap (λ claimants. claims_at claimants c.args.number) (slot-absent c.args.slot.now c.self.inside.by_slot.entries c.in-None.ensures.value)))
