use Rattle.std.proofs.Common.{ap}
use Rattle.address_holders.specs.Holders.{claims_at}
use Rattle.address_holders.proofs.SlotLaws.{dropped-now, dropped-apart}
use Rattle.address_holders.proofs.holders.Holders.drop_empty.Goals as goal

pub returns-clause-numbers : goal.returns-clause-numbers
returns-clause-numbers c = ap claims_at (dropped-now c.args.slot.now c.self.inside.by_slot c.remove-empty.new.self c.remove-empty.ensures.updates)

pub returns-clause-others : goal.returns-clause-others
returns-clause-others c = rw (← c.self.view_is) (dropped-apart c.args.slot.now c.self.inside.by_slot c.remove-empty.new.self c.remove-empty.ensures.updates)
