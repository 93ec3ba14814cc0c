use Rattle.std.proofs.Common.{◌∙◌}
use Rattle.address_holders.specs.Holders.{claims_having}
use Rattle.claim_index.proofs.IndexRemoval.{left-next}
use Rattle.claim_index.proofs.removal.remove_each.Goals as goal

pub loop-address-preserved : goal.loop-address-preserved
loop-address-preserved c =
    record {
      numbers = c.remove.ensures.numbers
          ∙ left-next c.args.number c.args.addresses.now c.loop-address.address-index c.address-item.result (claims_having c.args.holders.now c.args.slot.now)
          (claims_having c.loop-address.holders c.args.slot.now)
          c.loop-address-test.true c.address-item.is c.loop-address.invariant.numbers;
      others = λ s apart. c.remove.ensures.others s apart ∙ c.loop-address.invariant.others s apart;
    }
