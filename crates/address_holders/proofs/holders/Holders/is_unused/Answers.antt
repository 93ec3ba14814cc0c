use Rattle.std.proofs.Common.{◌≡◌, [], refl, ap}
use Rattle.std.specs.Prelude.{◌↔◌, IsTrue}
use Rattle.address_holders.specs.Holders.{claims_at}
use Rattle.address_holders.proofs.SlotLaws.{slot-absent, of-found}
use Rattle.address_holders.proofs.holders.Holders.is_unused.Goals as goal

pub returns-in-Some : goal.returns-in-Some
returns-in-Some c =
    rw (← c.self.view_is)
    (of-found c.args.slot.now c.self.inside.by_slot.entries c.in-Some.claimants.now c.in-Some.ensures.value
    (λ claimants. IsTrue c.is_empty.result ↔ (claims_at claimants ≡ (λ n. []))) c.is_empty.ensures)

pub returns-in-None : goal.returns-in-None
returns-in-None c =
    rw (← c.self.view_is)
    (λ yes. ap claims_at (slot-absent c.args.slot.now c.self.inside.by_slot.entries c.in-None.ensures.value), λ none. refl)
