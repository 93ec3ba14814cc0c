use Rattle.ip_ranges.specs.declared.family.Family.TheVariants.{V4, V6}
use Rattle.address_holders.proofs.address_holders.AddressHolders.first_beyond.Goals as goal

pub first_beyond-requires : goal.first_beyond-requires
first_beyond-requires c = let asked = rw (← c.self.view_is) at c.requires in λ n here. asked (record { family = V4; number = n }) here

pub first_beyond-requires-in-V6 : goal.first_beyond-requires-in-V6
first_beyond-requires-in-V6 c = let asked = rw (← c.self.view_is) at c.requires in λ n here. asked (record { family = V6; number = n }) here
