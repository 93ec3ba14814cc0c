use Rattle.std.proofs.Common.{refl}
use Rattle.address_holders.proofs.HolderLaws.{same-having}
use Rattle.address_holders.proofs.address_holders.AddressHolders.reserve.Goals as goal

pub returns-in-V4-clause-numbers : goal.returns-in-V4-clause-numbers
returns-in-V4-clause-numbers c =
    rw (← c.self.view_is) (λ s. same-having c.self.inside.v4 c.self.inside.v6 c.reserve.new.self c.self.inside.v6 s (c.reserve.ensures.numbers s) refl)

pub returns-in-V6-clause-numbers : goal.returns-in-V6-clause-numbers
returns-in-V6-clause-numbers c = rw (← c.self.view_is)
    (λ s. same-having c.self.inside.v4 c.self.inside.v6 c.self.inside.v4 c.reserve-in-V6.new.self s refl (c.reserve-in-V6.ensures.numbers s))
