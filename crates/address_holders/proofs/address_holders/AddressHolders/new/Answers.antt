use Rattle.address_holders.proofs.HolderLaws.{none-having}
use Rattle.address_holders.proofs.address_holders.AddressHolders.new.Goals as goal

pub returns : goal.returns
returns c = record { numbers = λ slot. none-having c.new.result c.new-2.result slot (c.new.ensures.numbers slot) (c.new-2.ensures.numbers slot) }
