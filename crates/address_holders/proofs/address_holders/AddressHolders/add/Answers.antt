use Rattle.std.proofs.Common.{◌∷◌, ◌++◌, [], refl}
use Rattle.address_holders.proofs.HolderLaws.{changed-v4, changed-v6, same-slot}
use Rattle.address_holders.proofs.address_holders.AddressHolders.add.Goals as goal

pub returns-in-V4-clause-numbers : goal.returns-in-V4-clause-numbers
returns-in-V4-clause-numbers c =
    rw (← c.self.view_is, ← c.address.view_is)
    (changed-v4 (λ ns. ns ++ c.args.claim ∷ []) c.args.slot.now c.self.inside.v4 c.self.inside.v6 c.add.new.self c.address.inside.family c.address.inside.number
    c.in-V4.is c.add.ensures.numbers)

pub returns-in-V6-clause-numbers : goal.returns-in-V6-clause-numbers
returns-in-V6-clause-numbers c =
    rw (← c.self.view_is, ← c.address.view_is)
    (changed-v6 (λ ns. ns ++ c.args.claim ∷ []) c.args.slot.now c.self.inside.v4 c.self.inside.v6 c.add-in-V6.new.self c.address.inside.family
    c.address.inside.number c.in-V6.is c.add-in-V6.ensures.numbers)

pub returns-in-V4-clause-others : goal.returns-in-V4-clause-others
returns-in-V4-clause-others c =
    rw (← c.self.view_is) (λ s apart. same-slot c.self.inside.v4 c.self.inside.v6 c.add.new.self c.self.inside.v6 s (c.add.ensures.others s apart) refl)

pub returns-in-V6-clause-others : goal.returns-in-V6-clause-others
returns-in-V6-clause-others c = rw (← c.self.view_is)
    (λ s apart. same-slot c.self.inside.v4 c.self.inside.v6 c.self.inside.v4 c.add-in-V6.new.self s refl (c.add-in-V6.ensures.others s apart))
