use Rattle.std.proofs.Common.{◌==◌, not, filter, refl}
use Rattle.address_holders.proofs.HolderLaws.{changed-v4, changed-v6, same-slot}
use Rattle.address_holders.proofs.address_holders.AddressHolders.remove.Goals as goal

pub returns-in-V4-clause-numbers : goal.returns-in-V4-clause-numbers
returns-in-V4-clause-numbers c =
    rw (← c.self.view_is, ← c.address.view_is)
    (changed-v4 (λ ns. filter (λ n. not (n == c.args.claim)) ns) c.args.slot.now c.self.inside.v4 c.self.inside.v6 c.remove.new.self c.address.inside.family
    c.address.inside.number c.in-V4.is c.remove.ensures.numbers)

pub returns-in-V6-clause-numbers : goal.returns-in-V6-clause-numbers
returns-in-V6-clause-numbers c =
    rw (← c.self.view_is, ← c.address.view_is)
    (changed-v6 (λ ns. filter (λ n. not (n == c.args.claim)) ns) c.args.slot.now c.self.inside.v4 c.self.inside.v6 c.remove-in-V6.new.self
    c.address.inside.family c.address.inside.number c.in-V6.is c.remove-in-V6.ensures.numbers)

pub returns-in-V4-clause-others : goal.returns-in-V4-clause-others
returns-in-V4-clause-others c =
    rw (← c.self.view_is) (λ s apart. same-slot c.self.inside.v4 c.self.inside.v6 c.remove.new.self c.self.inside.v6 s (c.remove.ensures.others s apart) refl)

pub returns-in-V6-clause-others : goal.returns-in-V6-clause-others
returns-in-V6-clause-others c = rw (← c.self.view_is)
    (λ s apart. same-slot c.self.inside.v4 c.self.inside.v6 c.self.inside.v4 c.remove-in-V6.new.self s refl (c.remove-in-V6.ensures.others s apart))
